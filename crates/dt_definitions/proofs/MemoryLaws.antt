-- Which edits take memory.
use Rattle.std.proofs.Common.{◌≡◌, true, false, not, ◌&&◌, length, is_none, Ok, Err, IsTrue, refl, ap, ◌∙◌, arith}
use Rattle.std.proofs.lemmas.Bool.{false≢true, and_parts}
use Rattle.dt_definitions.specs.Program.{Definition, Program, is_definition, key_of, is_key_before, is_same_key}
use Rattle.dt_definitions.specs.Step.{has_definition, refusal, effect, step_edit}
use Rattle.dt_definitions.specs.MemoryLaws.{OneMoreTakesMemory, MemoryIsForOneMore, RefusedEditsTakeNone, WithoutTheTestDecided, WithoutTheTestDecidedBatch, DecidedIsFree, DecidedBatchIsFree}
use Rattle.dt_definitions.specs.declared.edit.Edit.{Edit}
use Rattle.dt_definitions.specs.declared.edit.Edit.TheVariants.{Define, Undefine}
use Rattle.dt_definitions.specs.declared.why.ApplyFault.TheVariants as apply_fault
use Rattle.dt_definitions.specs.declared.why.BatchFault.TheVariants as batch_fault
use Rattle.dt_definitions.proofs.AnswerLaws.{ok_has_no_cause, refusals_are_the_first_cause}
use Rattle.dt_definitions.proofs.DefinitionOrder.{key_order}
use Rattle.dt_definitions.proofs.Keys.{length-insert_new, length-insert_again}
use Rattle.dt_definitions.proofs.Steps.{few-filter}

-- an accepted edit has its effect, of so many definitions
so_many : (p q : Program) (edit : Edit) → step_edit p edit ≡ Ok q → length q.definitions ≡ length (effect p edit).definitions
so_many p q edit h = ap (λ (r : Program). length r.definitions) (ok_has_no_cause p q edit h).1

pub one_more_takes_memory : OneMoreTakesMemory
one_more_takes_memory p q (Define selector classes body) l h n =
    let d : Definition = record { selector = selector; classes = classes; body = body } in
    let again = length-insert_again key_of is_key_before is_same_key key_order d p.definitions l.definitions_ascend in
    let none = (ok_has_no_cause p q (Define selector classes body) h).0 in
    elim (has_definition p selector classes) as (λ t. has_definition p selector classes ≡ t
    → IsTrue (is_none (refusal p (Define selector classes body)) && not t)) [
      | true ↦ λ there. absurd (omega (arith, n, so_many p q (Define selector classes body) h, again there))
      | false ↦ λ _. ap (λ o. is_none o && true) none
    ] refl
one_more_takes_memory p q (Undefine selector classes) l h n = absurd (omega (
  arith,
  n,
  so_many p q (Undefine selector classes) h,
  few-filter (λ d. not (is_definition selector classes d)) p.definitions,
))
one_more_takes_memory p q edit l h n = absurd (omega (arith, n, so_many p q edit h))

pub memory_is_for_one_more : MemoryIsForOneMore
memory_is_for_one_more p q (Define selector classes body) h m =
    let d : Definition = record { selector = selector; classes = classes; body = body } in
    let parts = and_parts (is_none (refusal p (Define selector classes body))) (not (has_definition p selector classes)) m in
    let new = parts.1 in
    let absent : has_definition p selector classes ≡ false = grind arith in
    so_many p q (Define selector classes body) h ∙ length-insert_new key_of is_key_before is_same_key key_order d p.definitions absent
memory_is_for_one_more p q edit h m = absurd (false≢true m)

pub refused_edits_take_none : RefusedEditsTakeNone
refused_edits_take_none p (Define selector classes body) why h =
    ap (λ o. is_none o && not (has_definition p selector classes))
    (refusals_are_the_first_cause p p (Define selector classes body) why (h, refl))
refused_edits_take_none p edit why h = refl

-- ---- the clauses of memory

pub without_the_test_decided : WithoutTheTestDecided
without_the_test_decided (Ok _) h = λ e. cc
without_the_test_decided (Err (apply_fault.Refused why)) h = λ e. cc
without_the_test_decided (Err apply_fault.NoMemory) h = absurd (false≢true h)

pub without_the_test_decided_batch : WithoutTheTestDecidedBatch
without_the_test_decided_batch (Ok _) h = λ e. cc
without_the_test_decided_batch (Err (batch_fault.Refused at why)) h = λ e. cc
without_the_test_decided_batch (Err batch_fault.NoMemory) h = absurd (false≢true h)

pub decided_is_free : DecidedIsFree
decided_is_free test (Ok _) d = tt
decided_is_free test (Err (apply_fault.Refused why)) d = tt
decided_is_free test (Err apply_fault.NoMemory) d = absurd (d refl)

pub decided_batch_is_free : DecidedBatchIsFree
decided_batch_is_free test (Ok _) d = tt
decided_batch_is_free test (Err (batch_fault.Refused at why)) d = tt
decided_batch_is_free test (Err batch_fault.NoMemory) d = absurd (d refl)
