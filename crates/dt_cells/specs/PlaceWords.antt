-- Place words of some selectors.
use Rattle.std.specs.Prelude.{ℕ, ◌-◌, ◌==◌, Bool, if◌then◌else◌, List}
use Rattle.std.specs.List.{list_any}
use Rattle.dt_pages.specs.Reading.{Reading}
use Rattle.dt_cells.specs.Regions.{place_of}

-- the address is the place word of one of the selectors
abbrev pub is_place_among : List ℕ → ℕ → Bool
is_place_among selectors address = list_any (λ selector. place_of selector == address) selectors

-- the place words that belong to a kind: as they are read for the selectors that have a place in it, and 0 for the others
abbrev pub own_words : (ℕ → Bool) → Reading → Reading
own_words has_place x address = if has_place (address - place_of 0) then x address else 0
