-- How rows lie in the bits: at a place each index of a row has a bit, so many bits from that of the index before.
use Rattle.std.specs.Prelude.{ℕ, ◌+◌, ◌*◌, ◌&&◌, Bool, not, List}
use Rattle.std.specs.List.{list_all}
use Rattle.dt_graph.specs.ClassSet.{has_bit}
use Rattle.dt_fit.specs.declared.geometry.Geometry.{Geometry}
use Rattle.dt_fit.specs.declared.geometry.Geometry.TheVariants.{Colours, Displacements}

-- so many bits lie between those of neighbouring indexes
abbrev pub step_of : Geometry → ℕ
step_of Colours = 4096
step_of Displacements = 1

-- whether no bit of the indexes is set at the place
unfoldable pub are_free : List ℕ → ℕ → List ℕ → ℕ → Bool
are_free words step indexes place = list_all (λ index. not (has_bit words (step * index + place))) indexes

-- whether the place isn't taken, and no bit of the indexes is set there
unfoldable pub is_open : List ℕ → List ℕ → ℕ → List ℕ → ℕ → Bool
is_open taken words step indexes place = not (has_bit taken place) && are_free words step indexes place
