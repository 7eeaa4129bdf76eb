-- When a class is below another: as a relation, and as a test.
use Rattle.std.specs.Prelude.{◌≡◌, ◌==◌, ℕ, Bool, ◌&&◌, ◌||◌, IsTrue, List, [], ◌∷◌}
use Rattle.dt_graph.specs.Graph.{Link, has_link}

-- from the first class the steps lead to the last, each along a link
abbrev pub Leads : List Link → ℕ → List ℕ → ℕ → Type 0
Leads links from [] to = from ≡ to
Leads links from (step ∷ steps) to = IsTrue (has_link links from step) × Leads links step steps to

-- a class is below another where they are equal, or a list of links leads from it to the other
abbrev pub IsBelow : List Link → ℕ → ℕ → Type 0
IsBelow links low high = (steps : List ℕ) × Leads links low steps high

-- no list of links, one at least, leads from a class to itself
abbrev pub HasNoCycle : List Link → Type 0
HasNoCycle links = (class step : ℕ) (steps : List ℕ) → Leads links class (step ∷ steps) class → ⊥

-- The test, by recursion on the links: without the first link, or to its class and on from its parent.
-- A way that uses the first link is cut at the first and at the last use.
abbrev pub is_below : List Link → ℕ → ℕ → Bool
is_below [] low high = low == high
is_below (link ∷ links) low high =
    is_below links low high || (is_below links low link.class && is_below links link.parent high)
