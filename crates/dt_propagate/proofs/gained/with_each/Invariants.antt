use Rattle.std.proofs.Common.{◌≡◌, ◌+◌, take}
use Rattle.std.specs.Prelude.{min}
use Rattle.std.specs.List.{sum_by}
use Rattle.dt_propagate.specs.Bounds.{size_gained, firsts_gained}
use Rattle.dt_propagate.specs.Counted.{greatest}
use Rattle.dt_propagate.proofs.gained.with_each.Given as goal

abbrev pub invariant-loop-key : goal.invariant-loop-key
invariant-loop-key l = record {
  cells : l.total.cells ≡ min (l.fn.sizes.cells + sum_by (λ key. size_gained l.fn.old l.fn.new key.classes) (take l.key-index l.fn.keys)) greatest;
  rows : l.total.rows ≡ min (l.fn.sizes.rows + sum_by (λ key. firsts_gained l.fn.old l.fn.new key.classes) (take l.key-index l.fn.keys)) greatest;
}
