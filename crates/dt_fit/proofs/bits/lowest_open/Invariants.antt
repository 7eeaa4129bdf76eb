use Rattle.std.proofs.Common.{◌-◌, ◌^◌}
use Rattle.dt_fit.proofs.OpenPlaces.{IsSearched}
use Rattle.dt_fit.proofs.bits.lowest_open.Given as goal

abbrev pub invariant-loop-blocked : goal.invariant-loop-blocked
invariant-loop-blocked l = IsSearched l.taken l.words l.step l.indexes l.first l.blocked

abbrev pub decreases-loop-blocked : goal.decreases-loop-blocked
decreases-loop-blocked l = 2 ^ 26 - l.first
