use Rattle.std.proofs.Common.{◌≡◌, ◌+◌, drop, take, reverse}
use Rattle.dt_definitions.specs.Parts.{program_of}
use Rattle.dt_definitions.specs.Lawful.{Lawful}
use Rattle.dt_definitions.specs.Step.{step_from, step_batch}
use Rattle.dt_definitions.specs.Undo.{undoing, LeadsBack, HasRooms}
use Rattle.dt_definitions.proofs.parts.Parts.apply_kept.Given as goal

abbrev pub invariant-loop-index : goal.invariant-loop-index
invariant-loop-index l = record {
  rest : step_from (l.index + 1) (program_of l.self) (drop l.index l.edits) ≡ step_batch (program_of l.initial.self) l.edits;
  lawful : Lawful (program_of l.self);
  back : LeadsBack (program_of l.self) (undoing (reverse (take l.index l.edits)) (reverse l.kept.items)) (program_of l.initial.self);
  rooms : HasRooms l.self.definitions.rooms (program_of l.self) (undoing (reverse (take l.index l.edits)) (reverse l.kept.items));
}
