-- How the second of two programs is kept.
use Rattle.std.specs.Prelude.{◌≡◌, Ok, reverse}
use Rattle.dt_definitions.specs.Program.{Program}
use Rattle.dt_definitions.specs.Step.{step_batch}
use Rattle.dt_definitions.specs.Undo.{undoing, LeadsBack}
use Rattle.dt_definitions.specs.declared.two_programs.Second.{Second}
use Rattle.dt_definitions.specs.declared.two_programs.Second.TheVariants.{Behind, Tried, Gone}

-- the program that is tried, or else this one
abbrev pub tried_or : Program → Second → Program
tried_or stands (Behind program batch) = stands
tried_or stands (Tried program batch kept) = program
tried_or stands Gone = stands

-- the second program is behind the one that stands by its batch, or before it by its batch, and undoing that leads back
abbrev pub IsSecondOf : Program → Second → Type 0
IsSecondOf stands (Behind program batch) = step_batch program batch ≡ Ok stands
IsSecondOf stands (Tried program batch kept) =
    (step_batch stands batch ≡ Ok program) × LeadsBack program (undoing (reverse batch) (reverse kept.items)) stands
IsSecondOf stands Gone = Unit {0}
