use Rattle.std.proofs.Common.{take}
use Rattle.dt_definitions.specs.Laws.{AreInRange}
use Rattle.dt_definitions.proofs.batch.Batch.law.Given as goal

abbrev pub invariant-loop-edit : goal.invariant-loop-edit
invariant-loop-edit l = AreInRange (take l.edit-index l.edit-items)
