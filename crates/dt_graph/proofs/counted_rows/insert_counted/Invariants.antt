use Rattle.std.proofs.Common.{◌-◌, ◌≤◌}
use Rattle.dt_graph.specs.declared.limits.TheConstants.{CLASSES}
use Rattle.dt_graph.proofs.AncestryRows.{IsChangedTo, with_all}
use Rattle.dt_graph.proofs.counted_rows.insert_counted.Given as goal

abbrev pub invariant-loop-place : goal.invariant-loop-place
invariant-loop-place l = (l.least ≤ CLASSES) × IsChangedTo (with_all l.classes) l.fn.rows l.rows l.places l.least

abbrev pub decreases-loop-place : goal.decreases-loop-place
decreases-loop-place l = CLASSES - l.least
