use Rattle.std.proofs.Common.{◌≡◌, ◌+◌, take}
use Rattle.std.specs.Prelude.{min}
use Rattle.std.specs.List.{sum_by}
use Rattle.dt_propagate.specs.Bounds.{made_cells, made_rows}
use Rattle.dt_propagate.specs.Counted.{greatest}
use Rattle.dt_propagate.proofs.bound.with_keys.Given as goal

abbrev pub invariant-loop-key : goal.invariant-loop-key
invariant-loop-key l = record {
  cells : l.total.cells ≡ min (l.fn.sizes.cells + sum_by (made_cells l.fn.old l.fn.new) (take l.key-index l.fn.keys)) greatest;
  rows : l.total.rows ≡ min (l.fn.sizes.rows + sum_by (made_rows l.fn.old l.fn.new) (take l.key-index l.fn.keys)) greatest;
}
