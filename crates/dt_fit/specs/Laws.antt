-- The lowest place is one, some place fits where the used cells end, and beside so many rows a place fits below so many.
use Rattle.std.specs.Prelude.{◌≡◌, ℕ, ◌+◌, ◌-◌, ◌*◌, ◌<◌, ◌≤◌, ◌^◌, Bool, false, IsTrue, List, length}
use Rattle.dt_fit.specs.declared.geometry.Geometry.{Geometry}
use Rattle.dt_fit.specs.declared.geometry.Geometry.TheVariants.{Colours, Displacements}
use Rattle.dt_fit.specs.Geometry.{spread_of}
use Rattle.dt_fit.specs.Fits.{fits, fits_untaken, IsLowest, SomePlace}
use Rattle.dt_fit.specs.Rows.{PlacedRow, AreIndexes, AreRows, AreCellsOf, ArePlacesOf}

-- the lowest place is one
abbrev pub LowestIsOne : Type 0
LowestIsOne = (test : ℕ → Bool) (first second : ℕ) → IsLowest test first → IsLowest test second → first ≡ second

-- it depends on what the test says alone
abbrev pub LowestIsOfAnswers : Type 0
LowestIsOfAnswers = (test other : ℕ → Bool) (place : ℕ) → ((lower : ℕ) → test lower ≡ other lower) → IsLowest test place → IsLowest other place

-- no place that passes is below it
abbrev pub LowestIsLeast : Type 0
LowestIsLeast = (test : ℕ → Bool) (lowest place : ℕ) → IsLowest test lowest → IsTrue (test place) → lowest ≤ place

-- where no cell from a bound on is used, every row fits at the bound
abbrev pub PastAllFits : Type 0
PastAllFits = (geometry : Geometry) (used : ℕ → Bool) (indexes : List ℕ) (bound : ℕ)
    → ((cell : ℕ) → bound ≤ cell → used cell ≡ false) → IsTrue (fits geometry used indexes bound)

-- where the used cells are those of other rows, a row fits at a place that none of them has: each of them forbids at most
-- `spread_of` places
abbrev pub RowFits : Type 0
RowFits = (geometry : Geometry) (rows : List PlacedRow) (taken used : ℕ → Bool) (indexes : List ℕ)
    → AreRows rows → AreIndexes indexes → ArePlacesOf rows taken → AreCellsOf geometry rows used
    → SomePlace (fits_untaken geometry taken used indexes) (spread_of geometry * length rows + 1)

-- beside fewer than 4,096 other rows a colour below 4,096 fits
abbrev pub ColoursSuffice : Type 0
ColoursSuffice = (rows : List PlacedRow) (used : ℕ → Bool) (indexes : List ℕ) → length rows < 4096
    → AreRows rows → AreIndexes indexes → AreCellsOf Colours rows used → SomePlace (fits Colours used indexes) 4096

-- beside fewer than 4,096 other rows a displacement fits at which every cell is below 2^24
abbrev pub DisplacementsSuffice : Type 0
DisplacementsSuffice = (rows : List PlacedRow) (used : ℕ → Bool) (indexes : List ℕ) → length rows < 4096
    → AreRows rows → AreIndexes indexes → AreCellsOf Displacements rows used → SomePlace (fits Displacements used indexes) (2 ^ 24 - 2048)

-- beside fewer than 16,384 other rows a displacement that none of them has fits, at which every cell is below 2^26
abbrev pub ManyDisplacementsSuffice : Type 0
ManyDisplacementsSuffice = (rows : List PlacedRow) (taken used : ℕ → Bool) (indexes : List ℕ) → length rows < 16384
    → AreRows rows → AreIndexes indexes → ArePlacesOf rows taken → AreCellsOf Displacements rows used
    → SomePlace (fits_untaken Displacements taken used indexes) (2 ^ 26 - 2048)
