-- Searching a list in strict order of a key.
use Rattle.std.specs.Prelude.{◌≡◌, ℕ, Bool, suc, ◌<◌, if◌then◌else◌, IsTrue, List, [], ◌∷◌, length, None, IsSome, Result, Ok, Err}
use Rattle.std.specs.List.{HoldsAt}
use Rattle.dt_graph.specs.InOrder.{find_at}

-- the first place, from 0, whose key doesn't stand before this one
abbrev pub first_place : {X K : Type 0} → (X → K) → (K → K → Bool) → K → List X → ℕ
first_place key before k [] = 0
first_place key before k (x ∷ xs) = if before (key x) k then suc (first_place key before k xs) else 0

-- what a search for the key answers: its place, or else the place at which it would stand
abbrev pub Searched : {X K : Type 0} → (X → K) → (K → K → Bool) → (K → K → Bool) → K → List X → Result ℕ ℕ → Type 0
Searched key before same k xs (Ok place) =
    (place ≡ first_place key before k xs) × (place < length xs)
    × HoldsAt (λ x. IsTrue (same k (key x))) xs place × IsSome (find_at key same k xs)
Searched key before same k xs (Err place) = (place ≡ first_place key before k xs) × (find_at key same k xs ≡ None)
