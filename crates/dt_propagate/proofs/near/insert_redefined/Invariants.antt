use Rattle.std.proofs.Common.{◌≡◌, ◌==◌, ℕ, true, ◌&&◌, ◌||◌, take}
use Rattle.std.specs.List.{list_any}
use Rattle.dt_graph.specs.Graph.{has_number}
use Rattle.dt_propagate.specs.Walk.{goes_on}
use Rattle.dt_propagate.proofs.near.insert_redefined.Given as goal

abbrev pub invariant-loop-key : goal.invariant-loop-key
invariant-loop-key l =
    (n : ℕ) → has_number l.next n ≡ (has_number l.fn.next n
    || list_any (λ key. (key.selector == l.fn.selector) && goes_on l.fn.graph.links l.fn.nears true key.classes l.fn.prefix n)
    (take l.key-index l.fn.keys))
