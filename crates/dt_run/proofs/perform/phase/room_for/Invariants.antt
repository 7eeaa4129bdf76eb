use Rattle.std.proofs.Common.{◌≡◌, map, take}
use Rattle.dt_run.specs.Performing.{room}
use Rattle.dt_run.proofs.perform.phase.room_for.Given as goal

abbrev pub invariant-loop-part : goal.invariant-loop-part
invariant-loop-part l = l.logs.items ≡ map room (take l.part-index l.parts)
