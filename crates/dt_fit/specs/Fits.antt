-- Where a row fits, and the lowest place of those that pass a test.
use Rattle.std.specs.Prelude.{◌≡◌, ℕ, ◌<◌, ◌&&◌, Bool, false, not, IsTrue, List}
use Rattle.std.specs.List.{list_all}
use Rattle.dt_fit.specs.declared.geometry.Geometry.{Geometry}
use Rattle.dt_fit.specs.Geometry.{cell_at}

-- whether a row of these indexes fits at the place: none of its cells there is used
abbrev pub fits : Geometry → (ℕ → Bool) → List ℕ → ℕ → Bool
fits geometry used indexes place = list_all (λ index. not (used (cell_at geometry place index))) indexes

-- the same where the place has to be free, too: no other row has it
abbrev pub fits_untaken : Geometry → (ℕ → Bool) → (ℕ → Bool) → List ℕ → ℕ → Bool
fits_untaken geometry taken used indexes place = not (taken place) && fits geometry used indexes place

-- the place passes the test, and none below it does
pub record IsLowest (test : ℕ → Bool) (place : ℕ) : Type 0 where
  pub passes : IsTrue (test place)
  pub none_below : (lower : ℕ) → lower < place → test lower ≡ false

-- some place below the limit passes the test
abbrev pub SomePlace : (ℕ → Bool) → ℕ → Type 0
SomePlace test limit = (place : ℕ) × (place < limit) × IsTrue (test place)
