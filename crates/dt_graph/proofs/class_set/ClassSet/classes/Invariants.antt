use Rattle.std.proofs.Common.{◌-◌, ◌≤◌, length}
use Rattle.dt_graph.specs.declared.limits.TheConstants.{CLASSES}
use Rattle.dt_graph.proofs.AscendingSets.{IsWalked}
use Rattle.dt_graph.proofs.class_set.ClassSet.classes.Given as goal

abbrev pub invariant-loop-class : goal.invariant-loop-class
invariant-loop-class l =
    (l.least ≤ CLASSES) × (length l.classes.items ≤ l.least) × IsWalked l.self l.classes.items l.least

abbrev pub decreases-loop-class : goal.decreases-loop-class
decreases-loop-class l = CLASSES - l.least
