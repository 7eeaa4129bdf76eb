-- Laws of what batches and histories make of programs.
use Rattle.std.specs.Prelude.{◌≡◌, List, [], ◌∷◌, ◌++◌, Ok}
use Rattle.dt_definitions.specs.Program.{Program}
use Rattle.dt_definitions.specs.Lawful.{Lawful}
use Rattle.dt_definitions.specs.Laws.{AreInRange}
use Rattle.dt_definitions.specs.Step.{step_batch, stepped, after}
use Rattle.dt_definitions.specs.Differing.{DifferOnlyAt, edited_classes, redefined_keys}
use Rattle.dt_definitions.specs.declared.edit.Edit.{Edit}

-- a batch that is accepted leaves a lawful program
abbrev pub BatchesKeepLaw : Type 0
BatchesKeepLaw = (old new : Program) (edits : List Edit) → Lawful old → AreInRange edits →
    step_batch old edits ≡ Ok new → Lawful new

-- and one that differs from the old one only where its edits say
abbrev pub BatchesDifferWhereTheySay : Type 0
BatchesDifferWhereTheySay = (old new : Program) (edits : List Edit) → step_batch old edits ≡ Ok new →
    DifferOnlyAt (edited_classes edits) (redefined_keys edits) old new

-- the program after one batch more is the step of that batch
abbrev pub HistoriesGoOnByOne : Type 0
HistoriesGoOnByOne = (history : List (List Edit)) (batch : List Edit) →
    after (history ++ batch ∷ []) ≡ stepped (after history) batch
