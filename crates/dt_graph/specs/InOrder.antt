-- Lists in strict order of a key: each element stands before the next, so no key stands twice.
use Rattle.std.specs.Prelude.{◌≡◌, Bool, false, not, IsTrue, if◌then◌else◌, List, [], ◌∷◌, Option, filter, find}

-- keys in strict order: of two that aren't equal exactly one stands before the other, and so along three
pub record StrictOrder {K : Type 0} (before same : K → K → Bool) : Type 0 where
  pub transitive : (a b c : K) → IsTrue (before a b) → IsTrue (before b c) → IsTrue (before a c)
  pub irreflexive : (a : K) → before a a ≡ false
  pub total : (a b : K) → before a b ≡ false → same a b ≡ false → IsTrue (before b a)
  pub equal : (a b : K) → IsTrue (same a b) → a ≡ b
  pub reflexive : (a : K) → IsTrue (same a a)

-- each element stands before the next
abbrev pub Ascends : {X K : Type 0} → (X → K) → (K → K → Bool) → List X → Type 0
Ascends key before [] = Unit {0}
Ascends key before (a ∷ []) = Unit {0}
Ascends key before (a ∷ b ∷ xs) = IsTrue (before (key a) (key b)) × Ascends key before (b ∷ xs)

-- the list with this element in its place; one with the same key goes
abbrev pub insert_by_key : {X K : Type 0} → (X → K) → (K → K → Bool) → (K → K → Bool) → X → List X → List X
insert_by_key key before same new [] = new ∷ []
insert_by_key key before same new (x ∷ xs) =
    if before (key new) (key x)
    then new ∷ x ∷ xs
    else (if same (key new) (key x) then new ∷ xs else x ∷ insert_by_key key before same new xs)

-- the element with this key, and the list without it
abbrev pub find_at : {X K : Type 0} → (X → K) → (K → K → Bool) → K → List X → Option X
find_at key same k xs = find (λ x. same k (key x)) xs

abbrev pub without : {X K : Type 0} → (X → K) → (K → K → Bool) → K → List X → List X
without key same k xs = filter (λ x. not (same k (key x))) xs
