-- The step of an edit and of a batch, and the program after a history of batches.
use Rattle.std.specs.Prelude.{ℕ, ◌+◌, List, [], ◌∷◌, Result, Ok, Err}
use Rattle.std.specs.Result.{result_unwrap_or}
use Rattle.dt_graph.specs.Refusal.{ok_unless}
use Rattle.dt_definitions.specs.Program.{Program, empty_program}
use Rattle.dt_definitions.specs.declared.edit.Edit.{Edit}
use Rattle.dt_definitions.specs.declared.why.Why.{Why}
use Rattle.dt_definitions.specs.Causes.{refusal}
use Rattle.dt_definitions.specs.Effect.{effect}

-- the step of an edit: the new program, or the refusal
abbrev pub step_edit : Program → Edit → Result Program Why
step_edit p edit = ok_unless (refusal p edit) (effect p edit)

-- the first refusal in a batch: the place of the edit, from 1, and why
pub record Refused : Type 0 where
  pub at : ℕ
  pub why : Why

-- a step, and the steps after it; its refusal carries the place of its edit
abbrev pub and_then : Result Program Why → ℕ → (Program → Result Program Refused) → Result Program Refused
and_then (Ok p) place rest = rest p
and_then (Err why) place rest = Err (record { at = place; why = why })

-- the step of the rest of a batch, whose first edit has this place
abbrev pub step_from : ℕ → Program → List Edit → Result Program Refused
step_from place p [] = Ok p
step_from place p (edit ∷ edits) = and_then (step_edit p edit) place (λ q. step_from (place + 1) q edits)

-- the step of a batch: its edits in order, each on the program that the earlier ones left, or the first refusal
abbrev pub step_batch : Program → List Edit → Result Program Refused
step_batch p edits = step_from 1 p edits

-- the program after the batch: where the batch is refused, the old one
abbrev pub stepped : Program → List Edit → Program
stepped p edits = result_unwrap_or (step_batch p edits) p

-- the program after these batches
abbrev pub after_from : Program → List (List Edit) → Program
after_from p [] = p
after_from p (batch ∷ batches) = after_from (stepped p batch) batches

-- the program after a history: the empty one, stepped through its batches
abbrev pub after : List (List Edit) → Program
after history = after_from empty_program history
