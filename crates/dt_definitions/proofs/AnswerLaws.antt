-- What the answers of edits, batches and histories tell.
use Rattle.std.proofs.Common.{◌≡◌, ◌+◌, List, [], ◌∷◌, ◌++◌, length, None, Some, Ok, Err, Result, refl, sym, ap, ◌∙◌}
use Rattle.std.specs.Result.{result_unwrap_or}
use Rattle.dt_graph.specs.Refusal.{ok_unless}
use Rattle.dt_definitions.specs.Program.{Program, empty_program}
use Rattle.dt_definitions.specs.Step.{refusal, effect, step_edit, step_batch, stepped, after, after_from, and_then, Refused, Applies, AppliesBatch}
use Rattle.dt_definitions.specs.AnswerLaws.{EditAnswer, BatchAnswer, IsDecided, IsDecidedBatch, EditsHaveOneAnswer, EditsHaveAnAnswer, OkHasNoCause, RefusalsAreTheFirstCause, OkAloneChanges, BatchesHaveOneAnswer, BatchesHaveAnAnswer, OkAloneChangesByBatch, OneEditIsABatch, BatchesGoOn, BatchesEnd, LaterEditsDontCount, HistoriesGoOn, BatchesMakeHistories}
use Rattle.dt_definitions.specs.declared.edit.Edit.{Edit}
use Rattle.dt_definitions.specs.declared.why.Why.{Why}
use Rattle.dt_definitions.specs.declared.why.ApplyFault.TheVariants as apply_fault
use Rattle.dt_definitions.specs.declared.why.BatchFault.TheVariants as batch_fault
use Rattle.dt_definitions.proofs.BatchLaws.{goes_on, stays_refused}

-- ---- edits

pub edits_have_one_answer : EditsHaveOneAnswer
edits_have_one_answer old p q edit (Ok _) (Ok _) da db a b = let same : p ≡ q = cc in (refl, same)
edits_have_one_answer old p q edit (Ok _) (Err (apply_fault.Refused why)) da db a b = let step = b.0 in absurd cc
edits_have_one_answer old p q edit (Err (apply_fault.Refused why)) (Ok _) da db a b = let step = a.0 in absurd cc
edits_have_one_answer old p q edit (Err (apply_fault.Refused why)) (Err (apply_fault.Refused other)) da db a b =
    let step = a.0 in let again = b.0 in
    let same : why ≡ other = cc in
    (ap (λ w. Err (apply_fault.Refused w)) same, a.1 ∙ sym b.1)
edits_have_one_answer old p q edit (Err apply_fault.NoMemory) other da db a b = absurd (da refl)
edits_have_one_answer old p q edit (Ok _) (Err apply_fault.NoMemory) da db a b = absurd (db refl)
edits_have_one_answer old p q edit (Err (apply_fault.Refused why)) (Err apply_fault.NoMemory) da db a b = absurd (db refl)

pub edits_have_an_answer : EditsHaveAnAnswer
edits_have_an_answer old edit =
    elim (step_edit old edit) as (λ s. step_edit old edit ≡ s
    → (new : Program) × (answer : EditAnswer) × IsDecided answer × Applies old edit new answer) [
      | (Ok new) ↦ λ e. (new, Ok tt, (λ q. cc), e)
      | (Err why) ↦ λ e. (old, Err (apply_fault.Refused why), (λ q. cc), (e, refl))
    ] refl

pub ok_has_no_cause : OkHasNoCause
ok_has_no_cause old new edit h =
    elim (refusal old edit) as (λ o. ok_unless o (effect old edit) ≡ Ok new → (o ≡ None) × (new ≡ effect old edit)) [
      | None ↦ λ e. let same : new ≡ effect old edit = cc in (refl, same)
      | (Some cause) ↦ λ e. absurd cc
    ] h

pub refusals_are_the_first_cause : RefusalsAreTheFirstCause
refusals_are_the_first_cause old new edit why h =
    elim (refusal old edit) as (λ o. ok_unless o (effect old edit) ≡ Err why → o ≡ Some why) [
      | None ↦ λ e. absurd cc
      | (Some cause) ↦ λ e. cc
    ] h.0

pub ok_alone_changes : OkAloneChanges
ok_alone_changes old new edit (apply_fault.Refused why) h = h.1
ok_alone_changes old new edit apply_fault.NoMemory h = h

-- ---- batches

pub batches_have_one_answer : BatchesHaveOneAnswer
batches_have_one_answer old p q edits (Ok _) (Ok _) da db a b = let same : p ≡ q = cc in (refl, same)
batches_have_one_answer old p q edits (Ok _) (Err (batch_fault.Refused at why)) da db a b = let step = b.0 in absurd cc
batches_have_one_answer old p q edits (Err (batch_fault.Refused at why)) (Ok _) da db a b = let step = a.0 in absurd cc
batches_have_one_answer old p q edits (Err (batch_fault.Refused at why)) (Err (batch_fault.Refused place other)) da db a b =
    let first : Refused = record { at = at; why = why } in
    let second : Refused = record { at = place; why = other } in
    let step = a.0 in let again = b.0 in
    let same : first ≡ second = cc in
    (ap (λ (r : Refused). Err (batch_fault.Refused r.at r.why)) same, a.1 ∙ sym b.1)
batches_have_one_answer old p q edits (Err batch_fault.NoMemory) other da db a b = absurd (da refl)
batches_have_one_answer old p q edits (Ok _) (Err batch_fault.NoMemory) da db a b = absurd (db refl)
batches_have_one_answer old p q edits (Err (batch_fault.Refused at why)) (Err batch_fault.NoMemory) da db a b = absurd (db refl)

pub batches_have_an_answer : BatchesHaveAnAnswer
batches_have_an_answer old edits =
    elim (step_batch old edits) as (λ s. step_batch old edits ≡ s
    → (new : Program) × (answer : BatchAnswer) × IsDecidedBatch answer × AppliesBatch old edits new answer) [
      | (Ok new) ↦ λ e. (new, Ok tt, (λ q. cc), e)
      | (Err r) ↦ λ e. (old, Err (batch_fault.Refused r.at r.why), (λ q. cc), (e, refl))
    ] refl

pub ok_alone_changes_by_batch : OkAloneChangesByBatch
ok_alone_changes_by_batch old new edits (batch_fault.Refused at why) h = h.1
ok_alone_changes_by_batch old new edits batch_fault.NoMemory h = h

-- a batch of one edit steps as its edit does
alone : (old : Program) (edit : Edit) (s : Result Program Why) → step_edit old edit ≡ s
    → step_batch old (edit ∷ []) ≡ and_then s 1 (λ q. Ok q)
alone old edit s e = ap (λ t. and_then t 1 (λ q. Ok q)) e

pub one_edit_is_a_batch : OneEditIsABatch
one_edit_is_a_batch old new edit (Ok _) h = alone old edit (Ok new) h
one_edit_is_a_batch old new edit (Err (apply_fault.Refused why)) h = (alone old edit (Err why) h.0, h.1)
one_edit_is_a_batch old new edit (Err apply_fault.NoMemory) h = h

pub batches_go_on : BatchesGoOn
batches_go_on old reached new edits edit h k =
    goes_on 1 old reached edits (edit ∷ []) h ∙ ap (λ s. and_then s (length edits + 1) (λ q. Ok q)) k

pub batches_end : BatchesEnd
batches_end old reached edits edit why h k =
    (goes_on 1 old reached edits (edit ∷ []) h ∙ ap (λ s. and_then s (length edits + 1) (λ q. Ok q)) k.0, refl)

pub later_edits_dont_count : LaterEditsDontCount
later_edits_dont_count old new edits more at why h = (stays_refused 1 old edits more (record { at = at; why = why }) h.0, h.1)

-- ---- histories

goes_on_from : (p : Program) (history more : List (List Edit)) → after_from p (history ++ more) ≡ after_from (after_from p history) more
goes_on_from p [] more = refl
goes_on_from p (batch ∷ history) more = goes_on_from (stepped p batch) history more

pub histories_go_on : HistoriesGoOn
histories_go_on history more = goes_on_from empty_program history more

-- the program that an answered batch leaves is the one that it steps to
left : (old new : Program) (edits : List Edit) (answer : BatchAnswer)
    → IsDecidedBatch answer → AppliesBatch old edits new answer → stepped old edits ≡ new
left old new edits (Ok _) d h = ap (λ s. result_unwrap_or s old) h
left old new edits (Err (batch_fault.Refused at why)) d h = ap (λ s. result_unwrap_or s old) h.0 ∙ sym h.1
left old new edits (Err batch_fault.NoMemory) d h = absurd (d refl)

pub batches_make_histories : BatchesMakeHistories
batches_make_histories history batch new answer d h =
    histories_go_on history (batch ∷ []) ∙ left (after history) new batch answer d h
