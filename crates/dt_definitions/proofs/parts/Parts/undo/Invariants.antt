use Rattle.std.proofs.Common.{◌≤◌, length, take, reverse}
use Rattle.dt_definitions.specs.Program.{Program}
use Rattle.dt_definitions.specs.Parts.{program_of}
use Rattle.dt_definitions.specs.Lawful.{Lawful}
use Rattle.dt_definitions.specs.Undo.{undoing, LeadsBack, HasRooms}
use Rattle.dt_definitions.proofs.parts.Parts.undo.Given as goal

abbrev pub invariant-loop-left : goal.invariant-loop-left
invariant-loop-left l = record {
  lawful : Lawful (program_of l.self);
  within : l.left ≤ length l.edits;
  back : (old : Program) → LeadsBack (program_of l.initial.self) (undoing (reverse l.edits) (reverse l.initial.kept.items)) old
      → LeadsBack (program_of l.self) (undoing (reverse (take l.left l.edits)) (reverse l.kept.items)) old;
  rooms : (old : Program) → LeadsBack (program_of l.initial.self) (undoing (reverse l.edits) (reverse l.initial.kept.items)) old
      → HasRooms l.initial.self.definitions.rooms (program_of l.initial.self) (undoing (reverse l.edits) (reverse l.initial.kept.items))
      → HasRooms l.self.definitions.rooms (program_of l.self) (undoing (reverse (take l.left l.edits)) (reverse l.kept.items));
}

abbrev pub decreases-loop-left : goal.decreases-loop-left
decreases-loop-left l = l.left
