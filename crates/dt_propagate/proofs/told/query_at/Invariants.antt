use Rattle.std.proofs.Common.{◌≡◌, take}
use Rattle.dt_propagate.proofs.told.query_at.Given as goal

abbrev pub invariant-loop-class : goal.invariant-loop-class
invariant-loop-class l = l.numbers.items ≡ take l.class-index l.fn.classes
