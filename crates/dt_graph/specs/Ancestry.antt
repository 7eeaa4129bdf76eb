-- Which class is below which, as rows: row k has the numbers of the classes at or above the class k.
use Rattle.std.specs.Prelude.{◌≡◌, ℕ, ◌<◌, Bool, true, false, List, [], ◌∷◌, length, slice_index_or, refl}
use Rattle.dt_graph.specs.Graph.{has_number}
use Rattle.dt_graph.specs.declared.limits.TheConstants.{CLASSES}

-- whether row k has the number
abbrev pub row_has : List (List ℕ) → ℕ → ℕ → Bool
row_has rows k number = has_number (slice_index_or rows k []) number

-- whether the first class is at or below the second
abbrev pub holds : List (List ℕ) → ℕ → ℕ → Bool
holds ancestry low high = row_has ancestry low high

the_second_below_the_first : holds ((0 ∷ []) ∷ (0 ∷ 1 ∷ []) ∷ []) 1 0 ≡ true
the_second_below_the_first = refl

the_first_not_below_the_second : holds ((0 ∷ []) ∷ (0 ∷ 1 ∷ []) ∷ []) 0 1 ≡ false
the_first_not_below_the_second = refl

-- a row for each class in both lists, and each is the other with rows and columns changed about
pub record Mirrored (above below : List (List ℕ)) : Type 0 where
  pub above_count : length above ≡ CLASSES
  pub below_count : length below ≡ CLASSES
  pub same : (low high : ℕ) → low < CLASSES → high < CLASSES → row_has below high low ≡ row_has above low high
