-- Places in a list, counted from 1.
use Rattle.std.specs.Prelude.{◌==◌, ℕ, ◌-◌, if◌then◌else◌, List, Option, None, slice_get}

-- the element at this place, if there is such a place
abbrev pub nth : {T : Type 0} → List T → ℕ → Option T
nth items place = if place == 0 then None else slice_get items (place - 1)
