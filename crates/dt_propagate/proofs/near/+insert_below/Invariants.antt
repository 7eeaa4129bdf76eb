use Rattle.std.proofs.Common.{length}
use Rattle.dt_propagate.proofs.near.+insert_below.Given as goal

abbrev pub decreases-insert_below : goal.decreases-insert_below
decreases-insert_below l = length l.highs.now
