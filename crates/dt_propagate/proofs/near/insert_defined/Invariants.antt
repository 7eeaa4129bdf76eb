use Rattle.std.proofs.Common.{◌≡◌, ℕ, false, ◌||◌, take}
use Rattle.std.specs.List.{list_any}
use Rattle.dt_graph.specs.Graph.{has_number}
use Rattle.dt_propagate.specs.Walk.{goes_on}
use Rattle.dt_propagate.proofs.near.insert_defined.Given as goal

abbrev pub invariant-loop-defined : goal.invariant-loop-defined
invariant-loop-defined l =
    (n : ℕ) → has_number l.next n ≡ (has_number l.fn.next n
    || list_any (λ d. goes_on l.fn.graph.links l.fn.nears false d.classes l.fn.prefix n) (take l.defined-index l.fn.definitions))
