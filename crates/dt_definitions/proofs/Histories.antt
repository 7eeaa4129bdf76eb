-- The program after every history is lawful.
use Rattle.std.proofs.Common.{◌≡◌, List, [], ◌∷◌, ◌++◌, Ok, Err, refl, subst}
use Rattle.std.specs.Result.{result_unwrap_or}
use Rattle.dt_definitions.specs.Program.{Program, empty_program}
use Rattle.dt_definitions.specs.Lawful.{Lawful, IsInRange}
use Rattle.dt_definitions.specs.Step.{step_batch, stepped, after_from}
use Rattle.dt_definitions.specs.Laws.{LeadsTo, AreInRange, HistoryIsInRange, HistoriesAreLawful}
use Rattle.dt_definitions.specs.declared.edit.Edit.{Edit}
use Rattle.dt_definitions.proofs.LawfulSteps.{step-lawful, empty-lawful}
use Rattle.dt_definitions.proofs.BatchLaws.{batch_is_its_edits}

pub lawful-along : (p q : Program) (edits : List Edit) → LeadsTo p edits q → Lawful p → AreInRange edits → Lawful q
lawful-along p q [] h l r = subst Lawful h l
lawful-along p q (edit ∷ edits) h l r = lawful-along h.0 q edits h.2 (step-lawful p edit h.0 l r.0 h.1) r.1

lawful-stepped : (p : Program) (edits : List Edit) → Lawful p → AreInRange edits → Lawful (stepped p edits)
lawful-stepped p edits l r =
    elim (step_batch p edits) as (λ s. step_batch p edits ≡ s → Lawful (result_unwrap_or s p)) [
      | (Ok q) ↦ λ e. lawful-along p q edits (batch_is_its_edits p q edits e) l r
      | (Err refused) ↦ λ _. l
    ] refl

lawful-after : (p : Program) (history : List (List Edit)) → Lawful p → HistoryIsInRange history → Lawful (after_from p history)
lawful-after p [] l r = l
lawful-after p (batch ∷ history) l r = lawful-after (stepped p batch) history (lawful-stepped p batch l r.0) r.1

pub histories_are_lawful : HistoriesAreLawful
histories_are_lawful history r = lawful-after empty_program history empty-lawful r

-- edits in range with one more
pub in_range_push : (edits : List Edit) (last : Edit) → AreInRange edits → IsInRange last → AreInRange (edits ++ last ∷ [])
in_range_push [] last h r = (r, tt)
in_range_push (edit ∷ edits) last h r = (h.0, in_range_push edits last h.1 r)
