use Rattle.std.proofs.Common.{length}
use Rattle.dt_propagate.proofs.near.+is_any_above.Given as goal

abbrev pub decreases-is_any_above : goal.decreases-is_any_above
decreases-is_any_above l = length l.nears.now
