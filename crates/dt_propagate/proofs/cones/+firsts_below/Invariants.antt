use Rattle.std.proofs.Common.{length}
use Rattle.dt_propagate.proofs.cones.+firsts_below.Given as goal

abbrev pub decreases-firsts_below : goal.decreases-firsts_below
decreases-firsts_below l = length l.highs.now
