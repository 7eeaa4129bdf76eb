-- A free place among the places of the region always exists.
use Rattle.std.proofs.Common.{◌≡◌, ℕ, ◌+◌, ◌-◌, ◌<◌, ◌≤◌, Bool, List, length, sym, subst, arith}
use Rattle.dt_fit.specs.declared.geometry.Geometry.{Geometry}
use Rattle.dt_fit.specs.declared.geometry.Geometry.TheVariants.{Colours, Displacements}
use Rattle.dt_fit.specs.Geometry.{place_limit}
use Rattle.dt_fit.specs.Fits.{fits, IsLowest, SomePlace}
use Rattle.dt_fit.specs.Rows.{PlacedRow, AreIndexes, AreRows, AreCellsOf}
use Rattle.dt_fit.specs.Laws.{ColoursSuffice, DisplacementsSuffice, LowestIsLeast}
use Rattle.dt_placing.specs.Placing.{place_numbers, HasRoom}

pub some_place : (g : Geometry) → ColoursSuffice → DisplacementsSuffice → (used : ℕ → Bool) (list : List ℕ) → AreIndexes list
    → (rows : List PlacedRow) × (length rows < 4096) × AreRows rows × AreCellsOf g rows used → SomePlace (fits g used list) (place_numbers g)
some_place Colours colours displacements used list are r = colours r.0 used list r.1 r.2 are r.3
some_place Displacements colours displacements used list are r = displacements r.0 used list r.1 r.2 are r.3

numbers_below : (g : Geometry) → place_numbers g ≤ place_limit g
numbers_below Colours = omega arith
numbers_below Displacements = omega arith

pub some_limit : (g : Geometry) (test : ℕ → Bool) → SomePlace test (place_numbers g) → SomePlace test (place_limit g)
some_limit g test some = (some.0, omega (arith, some.1, numbers_below g), some.2)

pub lowest_room : (g : Geometry) (test : ℕ → Bool) (place : ℕ) → LowestIsLeast → SomePlace test (place_numbers g) → IsLowest test place → HasRoom g (place + 1)
lowest_room g test place least some lowest =
    let most : place ≤ some.0 = least test place some.0 lowest some.2 in
    let one : place + 1 - 1 ≡ place = omega arith in
    record { some = omega arith; within = subst (λ n. n < place_numbers g) (sym one) (omega (arith, most, some.1)) }
