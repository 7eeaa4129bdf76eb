use Rattle.std.proofs.Common.{◌≡◌, ℕ, ◌||◌, take}
use Rattle.std.specs.List.{list_any}
use Rattle.dt_graph.specs.Graph.{has_number}
use Rattle.dt_propagate.specs.Marks.{has_at}
use Rattle.dt_propagate.proofs.marks.insert_named.Given as goal

abbrev pub invariant-loop-defined : goal.invariant-loop-defined
invariant-loop-defined l = (n : ℕ) → has_number l.named n ≡ (has_number l.fn.named n || list_any (λ d. has_at d.classes l.fn.position n) (take l.defined-index l.fn.definitions))
