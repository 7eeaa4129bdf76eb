-- What a list has, part by part.
use Rattle.std.proofs.Common.{◌≡◌, ℕ, zero, suc, ◌<◌, List, [], ◌∷◌, ◌++◌, length, take, drop, get_or, All, Contains, ◌⊎◌, inl, inr, refl, subst, arith}

-- the list has the item
abbrev pub Has : {T : Type 0} → List T → T → Type 0
Has [] item = ⊥
Has (first ∷ items) item = (first ≡ item) ⊎ Has items item

pub has_of : {T : Type 0} (items : List T) (item : T) → Contains items item → Has items item
has_of items item has = at items has.0 has.1 has.2
  where
    at : {T : Type 0} (items : List T) {item : T} (k : ℕ) → k < length items → get_or items k item ≡ item → Has items item
    at [] k below is = absurd (omega (arith, below))
    at (first ∷ items) zero below is = inl is
    at (first ∷ items) (suc k) below is = inr (at items k (omega (arith, below)) is)

pub contains_of : {T : Type 0} (items : List T) (item : T) → Has items item → Contains items item
contains_of [] item has = absurd has
contains_of (first ∷ items) item has = elim has [
  | inl is ↦ (0, omega arith, is)
  | inr later ↦ (let rest = contains_of items item later in let below = rest.1 in (suc rest.0, omega (arith, below), rest.2))
]

pub all_has : {T : Type 0} (P : T → Type 0) (items : List T) → All P items → (item : T) → Has items item → P item
all_has P [] all item has = absurd has
all_has P (first ∷ items) all item has = elim has [
  | inl is ↦ subst P is (all 0 first (omega arith))
  | inr later ↦ all_has P items (λ k d below. all (suc k) d (omega (arith, below))) item later
]

pub has_all : {T : Type 0} (P : T → Type 0) (items : List T) → ((item : T) → Has items item → P item) → All P items
has_all P [] each k d below = absurd (omega (arith, below))
has_all P (first ∷ items) each zero d below = each first (inl refl)
has_all P (first ∷ items) each (suc k) d below = has_all P items (λ item has. each item (inr has)) k d (omega (arith, below))

pub in_parts : {T : Type 0} (count : ℕ) (items : List T) (item : T) → Has items item → Has (take count items) item ⊎ Has (drop count items) item
in_parts zero items item has = inr has
in_parts (suc count) [] item has = absurd has
in_parts (suc count) (first ∷ items) item has = elim has [
  | inl is ↦ inl (inl is)
  | inr later ↦ elim (in_parts count items item later) [ inl a ↦ inl (inr a) | inr b ↦ inr b ]
]

pub of_take : {T : Type 0} (count : ℕ) (items : List T) (item : T) → Has (take count items) item → Has items item
of_take zero items item has = absurd has
of_take (suc count) [] item has = absurd has
of_take (suc count) (first ∷ items) item has = elim has [ inl is ↦ inl is | inr later ↦ inr (of_take count items item later) ]

pub of_drop : {T : Type 0} (count : ℕ) (items : List T) (item : T) → Has (drop count items) item → Has items item
of_drop zero items item has = has
of_drop (suc count) [] item has = absurd has
of_drop (suc count) (first ∷ items) item has = inr (of_drop count items item has)

pub in_both : {T : Type 0} (items more : List T) (item : T) → Has (items ++ more) item → Has items item ⊎ Has more item
in_both [] more item has = inr has
in_both (first ∷ items) more item has = elim has [
  | inl is ↦ inl (inl is)
  | inr later ↦ elim (in_both items more item later) [ inl a ↦ inl (inr a) | inr b ↦ inr b ]
]

pub of_first : {T : Type 0} (items more : List T) (item : T) → Has items item → Has (items ++ more) item
of_first [] more item has = absurd has
of_first (first ∷ items) more item has = elim has [ inl is ↦ inl is | inr later ↦ inr (of_first items more item later) ]

pub of_second : {T : Type 0} (items more : List T) (item : T) → Has more item → Has (items ++ more) item
of_second [] more item has = has
of_second (first ∷ items) more item has = inr (of_second items more item has)
