use Rattle.std.proofs.Common.{length}
use Rattle.dt_propagate.proofs.gained.+size_gained.Given as goal

abbrev pub decreases-size_gained : goal.decreases-size_gained
decreases-size_gained l = length l.highs.now
