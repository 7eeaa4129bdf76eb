-- How a query is kept: its classes stand first in four positions, and the positions after them hold 0.
use Rattle.std.specs.Prelude.{◌≡◌, ℕ, ◌<◌, ◌≤◌, List, [], ◌∷◌, ◌++◌, length, take}

-- the classes, and 0 in the positions after them
abbrev pub pad : List ℕ → List ℕ
pad classes = take 4 (classes ++ 0 ∷ 0 ∷ 0 ∷ 0 ∷ [])

-- the arity is from 1 to 4, and the positions after the classes hold 0
pub record IsPadded (arity : ℕ) (positions : List ℕ) : Type 0 where
  pub some : 0 < arity
  pub few : arity ≤ 4
  pub four : length positions ≡ 4
  pub padded : pad (take arity positions) ≡ positions
