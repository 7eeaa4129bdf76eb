use Rattle.std.proofs.Common.{◌≡◌, ◌==◌, ℕ, ◌<◌, length}
use Rattle.dt_graph.specs.Ancestry.{row_has}
use Rattle.dt_graph.proofs.counted_rows.each_counted.Given as goal

abbrev pub invariant-loop-number : goal.invariant-loop-number
invariant-loop-number l =
    (length l.rows.items ≡ l.number) × ((k n : ℕ) → k < l.number → row_has l.rows.items k n ≡ (k == n))
