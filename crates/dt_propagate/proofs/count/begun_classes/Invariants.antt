use Rattle.std.proofs.Common.{◌≡◌, ℕ, take}
use Rattle.std.specs.List.{list_any}
use Rattle.dt_graph.specs.Graph.{has_number}
use Rattle.dt_propagate.specs.Begun.{goes_begun}
use Rattle.dt_propagate.proofs.count.begun_classes.Given as goal

abbrev pub invariant-loop-defined : goal.invariant-loop-defined
invariant-loop-defined l =
    (n : ℕ) → has_number l.next n ≡ list_any (λ d. goes_begun l.fn.graph.links d.classes l.fn.prefix n) (take l.defined-index l.fn.definitions)
