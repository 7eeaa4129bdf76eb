use Rattle.std.proofs.Common.{◌≡◌, ◌≤◌, length, filter}
use Rattle.std.specs.List.{range_with_len}
use Rattle.dt_graph.specs.Graph.{is_live}
use Rattle.dt_graph.proofs.class_graph.ClassGraph.classes.Given as goal

abbrev pub invariant-loop-number : goal.invariant-loop-number
invariant-loop-number l =
    (length l.classes.items ≤ l.number) × (l.classes.items ≡ filter (is_live l.self) (range_with_len 0 l.number))
