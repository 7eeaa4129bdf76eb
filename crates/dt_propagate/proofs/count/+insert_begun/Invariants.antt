use Rattle.std.proofs.Common.{length}
use Rattle.dt_propagate.proofs.count.+insert_begun.Given as goal

abbrev pub decreases-insert_begun : goal.decreases-insert_begun
decreases-insert_begun l = length l.highs.now
