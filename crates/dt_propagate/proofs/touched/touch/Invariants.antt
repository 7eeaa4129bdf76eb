use Rattle.std.proofs.Common.{◌≡◌, ℕ, ◌||◌, take}
use Rattle.dt_graph.specs.Graph.{has_number}
use Rattle.dt_propagate.specs.Touched.{is_of_any}
use Rattle.dt_propagate.proofs.touched.touch.Given as goal

abbrev pub invariant-loop-key : goal.invariant-loop-key
invariant-loop-key l = (n : ℕ) → has_number l.touched n ≡ (has_number l.fn.touched n || is_of_any (take l.key-index l.fn.keys) n)
