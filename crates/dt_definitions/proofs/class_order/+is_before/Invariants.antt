use Rattle.std.proofs.Common.{length}
use Rattle.dt_definitions.proofs.class_order.+is_before.Given as goal

abbrev pub decreases-is_before : goal.decreases-is_before
decreases-is_before l = length l.first.now
