-- The used indexes of a selector, and the rows of the other selectors.
use Rattle.std.specs.Prelude.{ℕ, zero, suc, ◌==◌, Bool, true, false, if◌then◌else◌, List, [], ◌∷◌, ◌++◌}
use Rattle.dt_scratch.specs.Query.{Query}
use Rattle.dt_scratch.specs.declared.reply.Answer.{Answer}
use Rattle.dt_scratch.specs.declared.reply.Answer.TheVariants.{NotUnderstood}
use Rattle.dt_cells.specs.Regions.{class_numbers}
use Rattle.dt_cells.specs.Held.{Held}
use Rattle.dt_fit.specs.Rows.{PlacedRow}

-- the query of a selector and one class
abbrev pub single : ℕ → ℕ → Query
single selector class = record { selector = selector; classes = class ∷ [] }

-- whether the answer is another than "not understood"
abbrev pub is_understood : Answer → Bool
is_understood NotUnderstood = false
is_understood answer = true

-- the classes below a bound that understand the selector, ascending
unfoldable pub indexes_below : Held → ℕ → ℕ → List ℕ
indexes_below held selector zero = []
indexes_below held selector (suc class) =
    indexes_below held selector class ++ (if is_understood (held (single selector class)) then class ∷ [] else [])

-- the used indexes of a selector: the classes that understand it
abbrev pub indexes : Held → ℕ → List ℕ
indexes held selector = indexes_below held selector class_numbers

-- whether a list has an element
abbrev pub is_some : List ℕ → Bool
is_some [] = false
is_some (index ∷ list) = true

-- whether some class understands the selector
abbrev pub has_index : Held → ℕ → Bool
has_index held selector = is_some (indexes held selector)

-- the rows of the selectors below a bound, without one selector's
unfoldable pub others_below : (ℕ → PlacedRow) → ℕ → ℕ → List PlacedRow
others_below row selector zero = []
others_below row selector (suc other) =
    if other == selector then others_below row selector other else row other ∷ others_below row selector other
