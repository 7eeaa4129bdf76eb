-- The parents of a class, as the links give them.
use Rattle.std.specs.Prelude.{◌==◌, ℕ, if◌then◌else◌, List, [], ◌∷◌}
use Rattle.dt_graph.specs.Graph.{Link}

-- the parents of the class, in the order of its links
abbrev pub parents_of : List Link → ℕ → List ℕ
parents_of [] class = []
parents_of (link ∷ links) class =
    if link.class == class then link.parent ∷ parents_of links class else parents_of links class
