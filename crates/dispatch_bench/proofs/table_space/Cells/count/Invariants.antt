use Rattle.std.specs.Prelude.{◌≤◌}
use Rattle.dispatch_bench.proofs.table_space.Cells.count.Given as goal

abbrev pub invariant-loop-number : goal.invariant-loop-number
invariant-loop-number l = l.spanned ≤ 67108864
