-- Laws of edits and batches, which follow from their definitions.
use Rattle.std.specs.Prelude.{◌≡◌, ℕ, ◌+◌, false, if◌then◌else◌, List, [], ◌∷◌, ◌++◌, length, None, Some, Ok, Err}
use Rattle.dt_definitions.specs.Program.{Definition, Program, is_definition, body_of}
use Rattle.dt_definitions.specs.Lawful.{Lawful, IsInRange}
use Rattle.dt_definitions.specs.Step.{step_edit, step_batch, after, Refused}
use Rattle.dt_definitions.specs.declared.edit.Edit.{Edit}
use Rattle.dt_definitions.specs.declared.edit.Edit.TheVariants.{Define, Undefine}

-- made one by one, the edits are all accepted, and lead from the first program to the second
abbrev pub LeadsTo : Program → List Edit → Program → Type 0
LeadsTo p [] q = p ≡ q
LeadsTo p (edit ∷ edits) q = (next : Program) × (step_edit p edit ≡ Ok next) × LeadsTo next edits q

-- made one by one, the edits before the refused one are accepted, and that one is refused for its cause
pub record StopsAt (p : Program) (edits : List Edit) (refused : Refused) : Type 0 where
  pub before : List Edit
  pub edit : Edit
  pub later : List Edit
  pub reached : Program
  pub whole : edits ≡ before ++ edit ∷ later
  pub place : refused.at ≡ length before + 1
  pub accepted : LeadsTo p before reached
  pub cause : step_edit reached edit ≡ Err refused.why

-- where a batch is accepted its edits are, made one by one, and lead to the same program
abbrev pub BatchIsItsEdits : Type 0
BatchIsItsEdits = (p q : Program) (edits : List Edit) → step_batch p edits ≡ Ok q → LeadsTo p edits q

-- and the other way round
abbrev pub EditsAreABatch : Type 0
EditsAreABatch = (p q : Program) (edits : List Edit) → LeadsTo p edits q → step_batch p edits ≡ Ok q

-- a batch is refused at the first of its edits that is refused by itself, for the same cause
abbrev pub BatchStopsAtItsEdit : Type 0
BatchStopsAtItsEdit = (p : Program) (edits : List Edit) (refused : Refused) → step_batch p edits ≡ Err refused → StopsAt p edits refused

-- and at such an edit it is refused
abbrev pub EditsStopABatch : Type 0
EditsStopABatch = (p : Program) (edits : List Edit) (refused : Refused) → StopsAt p edits refused → step_batch p edits ≡ Err refused

-- the definition of the selector at these classes
abbrev pub the : ℕ → List ℕ → ℕ → Definition
the selector classes body = record { selector = selector; classes = classes; body = body }

-- a definition sets the body at its own selector and classes, and nowhere else
abbrev pub DefineSetsOneBody : Type 0
DefineSetsOneBody = (p q : Program) (selector : ℕ) (classes : List ℕ) (body : ℕ) → step_edit p (Define selector classes body) ≡ Ok q
    → (other : ℕ) (at : List ℕ) → body_of q.definitions other at
    ≡ (if is_definition other at (the selector classes body) then Some body else body_of p.definitions other at)

-- a definition that goes leaves no body at its selector and classes, and every other as it was
abbrev pub UndefineClearsOneBody : Type 0
UndefineClearsOneBody = (p q : Program) (selector : ℕ) (classes : List ℕ) → step_edit p (Undefine selector classes) ≡ Ok q
    → (other : ℕ) (at : List ℕ) → body_of q.definitions other at
    ≡ (if is_definition other at (the selector classes 0) then None else body_of p.definitions other at)

-- two definitions of other selectors or at other classes may be made in either order
abbrev pub DefinesCommute : Type 0
DefinesCommute = (p q r : Program) (a b : Definition) → is_definition a.selector a.classes b ≡ false
    → LeadsTo p (Define a.selector a.classes a.body ∷ Define b.selector b.classes b.body ∷ []) q
    → LeadsTo p (Define b.selector b.classes b.body ∷ Define a.selector a.classes a.body ∷ []) r
    → q ≡ r

-- the numbers of all edits are in range, as those of every `Edit` are
abbrev pub AreInRange : List Edit → Type 0
AreInRange [] = Unit {0}
AreInRange (edit ∷ edits) = IsInRange edit × AreInRange edits

-- so are those of all edits of all batches
abbrev pub HistoryIsInRange : List (List Edit) → Type 0
HistoryIsInRange [] = Unit {0}
HistoryIsInRange (batch ∷ history) = AreInRange batch × HistoryIsInRange history

-- the program after every history is lawful
abbrev pub HistoriesAreLawful : Type 0
HistoriesAreLawful = (history : List (List Edit)) → HistoryIsInRange history → Lawful (after history)
