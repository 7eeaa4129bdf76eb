use Rattle.std.proofs.Common.{◌≡◌, ◌+◌, ◌-◌, ◌≤◌}
use Rattle.std.specs.Prelude.{min}
use Rattle.std.specs.List.{sum_by}
use Rattle.dt_graph.specs.declared.limits.TheConstants.{CLASSES}
use Rattle.dt_propagate.specs.Bounds.{cells_gained, rows_gained}
use Rattle.dt_propagate.specs.Counted.{greatest}
use Rattle.dt_propagate.proofs.WalkedSets.{gone_by}
use Rattle.dt_propagate.proofs.gained.with_gained.Given as goal

abbrev pub decreases-loop-class : goal.decreases-loop-class
decreases-loop-class l = CLASSES - l.least

abbrev pub invariant-loop-class : goal.invariant-loop-class
invariant-loop-class l = record {
  low : l.least ≤ CLASSES;
  cells : l.total.cells ≡ min (l.fn.sizes.cells + sum_by (cells_gained l.fn.old l.fn.new) (gone_by l.least l.fn.classes)) greatest;
  rows : l.total.rows ≡ min (l.fn.sizes.rows + sum_by (rows_gained l.fn.old l.fn.new) (gone_by l.least l.fn.classes)) greatest;
}
