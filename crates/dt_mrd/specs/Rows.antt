-- The rows of a table for several arguments: a selector with a prefix of classes, which some held query continues.
use Rattle.std.specs.Prelude.{ℕ, ◌==◌, ◌&&◌, ◌||◌, nat_lt, Bool, true, false, List, [], ◌∷◌, ◌++◌, length}
use Rattle.dt_scratch.specs.Query.{Query}
use Rattle.dt_cells.specs.Held.{Held, IsHeld, Row}

-- the query of a selector and a list of classes
abbrev pub sent : ℕ → List ℕ → Query
sent selector classes = record { selector = selector; classes = classes }

-- the row of a selector's empty prefix
abbrev pub root : ℕ → Row
root selector = (selector, [])

-- the row to which a class leads from a row
abbrev pub next_row : Row → ℕ → Row
next_row row class = (row.0, row.1 ++ (class ∷ []))

-- a class is a used index of a row where some held query continues the row's prefix by it
abbrev pub HasIndex : Held → Row → ℕ → Type 0
HasIndex held row class = (rest : List ℕ) × IsHeld held (sent row.0 (row.1 ++ (class ∷ rest)))

-- a row has a used index: its prefix is a proper prefix of a held query
abbrev pub IsRow : Held → Row → Type 0
IsRow held row = (class : ℕ) × HasIndex held row class

-- ---- the order in which rows are placed

-- whether a list of classes comes before another in ascending order
abbrev pub is_below : List ℕ → List ℕ → Bool
is_below classes [] = false
is_below [] (other ∷ others) = true
is_below (class ∷ classes) (other ∷ others) = nat_lt class other || ((class == other) && is_below classes others)

-- whether the turn of a row comes before that of another: selectors in ascending order, longer prefixes first, and prefixes
-- of one length in ascending order
abbrev pub comes_before : Row → Row → Bool
comes_before row other =
    nat_lt row.0 other.0
    || ((row.0 == other.0)
    && (nat_lt (length other.1) (length row.1) || ((length other.1 == length row.1) && is_below row.1 other.1)))
