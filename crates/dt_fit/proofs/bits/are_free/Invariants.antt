use Rattle.std.proofs.Common.{◌≡◌, true, take}
use Rattle.dt_fit.specs.Bits.{are_free}
use Rattle.dt_fit.proofs.bits.are_free.Given as goal

abbrev pub invariant-loop-index : goal.invariant-loop-index
invariant-loop-index l = true ≡ are_free l.words l.step (take l.index-index l.indexes) l.place
