-- What reading does to the bytes that a source has left, where it tells them.
use Rattle.std.specs.Prelude.{◌≡◌, ℕ, ◌≤◌, List, ◌++◌, length, Option, None, Some, ⊤}

-- what the source lost is what the bytes gained at their end
abbrev pub Moves : Option (List ℕ) → List ℕ → Option (List ℕ) → List ℕ → Type 0
Moves None before new after = ⊤
Moves (Some left) before None after = ⊥
Moves (Some left) before (Some rest) after = before ++ left ≡ after ++ rest

-- the source lost exactly so many bytes, those at the front of what it had left
abbrev pub Loses : ℕ → Option (List ℕ) → Option (List ℕ) → Type 0
Loses count None new = ⊤
Loses count (Some left) None = ⊥
Loses count (Some left) (Some rest) = (lost : List ℕ) × (length lost ≡ count) × (left ≡ lost ++ rest)

-- the source lost at most so many bytes, those at the front of what it had left
abbrev pub LosesAtMost : ℕ → Option (List ℕ) → Option (List ℕ) → Type 0
LosesAtMost limit None new = ⊤
LosesAtMost limit (Some left) None = ⊥
LosesAtMost limit (Some left) (Some rest) = (lost : List ℕ) × (length lost ≤ limit) × (left ≡ lost ++ rest)
