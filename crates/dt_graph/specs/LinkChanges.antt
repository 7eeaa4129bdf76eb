-- Where links of some classes to their parents change, and those of all others stay.
use Rattle.std.specs.Prelude.{◌≡◌, ℕ, Bool, false, List}
use Rattle.std.specs.List.{list_any}
use Rattle.dt_graph.specs.Graph.{Link, has_number, has_link}
use Rattle.dt_graph.specs.Below.{is_below}

-- whether the class is below one of these
abbrev pub is_below_any : List Link → List ℕ → ℕ → Bool
is_below_any links highs class = list_any (λ high. is_below links class high) highs

-- all classes but these have the same links to parents
abbrev pub OthersKeepTheirLinks : List ℕ → List Link → List Link → Type 0
OthersKeepTheirLinks edited old new =
    (class parent : ℕ) → has_number edited class ≡ false → has_link old class parent ≡ has_link new class parent
