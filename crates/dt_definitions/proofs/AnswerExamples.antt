-- What answers don't tell: an edit that is refused isn't accepted, a program doesn't change by a refusal, and memory isn't
-- wanting where the test fails.
use Rattle.std.proofs.Common.{ℕ, false, [], ◌∷◌, Result, Ok, Err, ap, arith}
use Rattle.std.proofs.lemmas.Bool.{false≢true}
use Rattle.dt_definitions.specs.Program.{Program}
use Rattle.dt_definitions.specs.Step.{stepped, Refused, Applies, AppliesBatch}
use Rattle.dt_definitions.specs.Memory.{NoMemoryOnlyWhere, BatchNoMemoryOnlyWhere}
use Rattle.dt_definitions.specs.OrderExamples.{program}
use Rattle.dt_definitions.specs.AnswerExamples.{two}
use Rattle.dt_definitions.specs.declared.edit.Edit.TheVariants as edit
use Rattle.dt_definitions.specs.declared.why.Why.TheVariants as why
use Rattle.dt_definitions.specs.declared.why.ApplyFault.TheVariants as apply_fault
use Rattle.dt_definitions.specs.declared.why.BatchFault.TheVariants as batch_fault

not_accepted : Applies program (edit.Unlink 1 2) program (Ok tt) → ⊥
not_accepted h = absurd cc

not_for_another_cause : Applies program (edit.Unlink 1 2) program (Err (apply_fault.Refused why.LinkExists)) → ⊥
not_for_another_cause h = let told = h.0 in absurd cc

not_changed_by_want_of_memory : Applies program (edit.AddClass 8 []) (stepped program (edit.AddClass 8 [] ∷ [])) (Err apply_fault.NoMemory) → ⊥
not_changed_by_want_of_memory h = absurd cc

-- the place that a batch is refused at
abbrev position_of : Result Program Refused → ℕ
position_of (Ok _) = 0
position_of (Err refused) = refused.at

not_at_another_place : AppliesBatch program (edit.AddClass 8 [] ∷ edit.Unlink 8 3 ∷ []) program (Err (batch_fault.Refused 1 why.LinkUnknown)) → ⊥
not_at_another_place h = let told = ap position_of h.0 in absurd (omega (arith, told))

not_with_its_first_edit_kept : AppliesBatch program (edit.AddClass 8 [] ∷ edit.Unlink 8 3 ∷ [])
    (stepped program (edit.AddClass 8 [] ∷ [])) (Err (batch_fault.Refused 2 why.LinkUnknown)) → ⊥
not_with_its_first_edit_kept h = let kept = h.1 in absurd cc

not_refused : AppliesBatch program two program (Err (batch_fault.Refused 2 why.LinkExists)) → ⊥
not_refused h = let told = h.0 in absurd cc

no_memory_without_the_test : NoMemoryOnlyWhere false (Err apply_fault.NoMemory) → ⊥
no_memory_without_the_test h = false≢true h

no_memory_without_the_test_of_a_batch : BatchNoMemoryOnlyWhere false (Err batch_fault.NoMemory) → ⊥
no_memory_without_the_test_of_a_batch h = false≢true h
