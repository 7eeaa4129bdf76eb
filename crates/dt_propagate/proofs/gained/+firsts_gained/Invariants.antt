use Rattle.std.proofs.Common.{length}
use Rattle.dt_propagate.proofs.gained.+firsts_gained.Given as goal

abbrev pub decreases-firsts_gained : goal.decreases-firsts_gained
decreases-firsts_gained l = length l.highs.now
