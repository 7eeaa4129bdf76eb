use Rattle.std.proofs.Common.{length}
use Rattle.dt_propagate.proofs.near.+is_unmarked.Given as goal

abbrev pub decreases-is_unmarked : goal.decreases-is_unmarked
decreases-is_unmarked l = length l.nears.now
