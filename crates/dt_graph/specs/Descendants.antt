-- The live classes at or below a class.
use Rattle.std.specs.Prelude.{ℕ, List, filter}
use Rattle.dt_graph.specs.Graph.{Graph}
use Rattle.dt_graph.specs.Below.{is_below}

-- the live classes at or below the class, in ascending order; the class itself need not be live
abbrev pub descendants : Graph → ℕ → List ℕ
descendants graph class = filter (λ low. is_below graph.links low class) graph.classes
