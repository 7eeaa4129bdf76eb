-- Lists read at a place, changed at a place, and summed.
use Rattle.std.proofs.Common.{◌≡◌, ◌≢◌, ℕ, zero, suc, ◌+◌, ◌<◌, ◌≤◌, ◌==◌, cond, List, [], ◌∷◌, ◌++◌, length, get_or, set, sum_by, refl, sym, ap, subst, arith, eq-eqb, ne_eqb, get_or-set_other, get_or-set_same}
use Rattle.std.proofs.lemmas.List.Sums.{sum_by-set, sum_by-cons}
use Rattle.std.proofs.lemmas.List.{get_or_past}
use native.Mathlib.Decide.{dec_lt, ℕ_discrete}

-- an element that isn't the default is in the list
pub in_list : {X : Type 0} (P : X → Type 0) (d : X) → ¬ P d → (xs : List X) (i : ℕ) → P (get_or xs i d) → i < length xs
in_list P d none xs i here = elim (dec_lt i (length xs)) [ yes h ↦ h | no h ↦ absurd (none (subst P (get_or_past xs i d (omega arith)) here)) ]

set_past : {X : Type 0} (xs : List X) (i : ℕ) (y : X) → length xs ≤ i → set xs i y ≡ xs
set_past [] i y past = refl
set_past (x ∷ xs) zero y past = absurd (omega arith)
set_past (x ∷ xs) (suc i) y past = ap (λ zs. x ∷ zs) (set_past xs i y (omega arith))

-- what holds of the element at j after a change at i
pub at_set : {X : Type 0} (P : X → Type 0) (d : X) (xs : List X) (i j : ℕ) (y : X)
    → (j ≡ i → P y) → (j ≢ i → P (get_or xs j d)) → (length xs ≤ i → P (get_or xs j d)) → P (get_or (set xs i y) j d)
at_set P d xs i j y same other past =
    elim (dec_lt i (length xs)) [
      | no h ↦ subst (λ zs. P (get_or zs j d)) (sym (set_past xs i y (omega arith))) (past (omega arith))
      | yes h ↦ elim (ℕ_discrete j i) [
        | yes e ↦ subst (λ k. P (get_or (set xs i y) k d)) (sym e) (subst P (sym (get_or-set_same xs i y d h)) (same e))
        | no n ↦ subst P (sym (get_or-set_other xs i j y d n)) (other n)
      ]
    ]

-- the same for a change in the list
pub at_change : {X : Type 0} (P : X → Type 0) (d : X) (xs : List X) (i j : ℕ) (y : X) → i < length xs
    → (j ≡ i → P y) → (j ≢ i → P (get_or xs j d)) → P (get_or (set xs i y) j d)
at_change P d xs i j y here same other = at_set P d xs i j y same other (λ past. absurd (omega arith))

-- what holds of each element, and of one put behind them
pub at_push : {X : Type 0} (P : X → Type 0) (d : X) (xs : List X) (y : X) (j : ℕ)
    → P y → P (get_or xs j d) → P d → P (get_or (xs ++ y ∷ []) j d)
at_push P d xs y zero new old default = at_push_first P d xs y new old
  where
    at_push_first : {X : Type 0} (P : X → Type 0) (d : X) (xs : List X) (y : X) → P y → P (get_or xs zero d) → P (get_or (xs ++ y ∷ []) zero d)
    at_push_first P d [] y new old = new
    at_push_first P d (x ∷ xs) y new old = old
at_push P d [] y (suc j) new old default = default
at_push P d (x ∷ xs) y (suc j) new old default = at_push P d xs y j new old default

-- a sum after a change that the summand does not see
pub sum_same : {X : Type 0} (f : X → ℕ) (d : X) (xs : List X) (i : ℕ) (y : X) → f y ≡ f (get_or xs i d) → sum_by f (set xs i y) ≡ sum_by f xs
sum_same f d xs i y same =
    elim (dec_lt i (length xs)) [ yes h ↦ omega (arith, sum_by-set f xs i y d h) | no h ↦ ap (sum_by f) (set_past xs i y (omega arith)) ]

pub sum_le : {X : Type 0} (f g : X → ℕ) → ((x : X) → f x ≤ g x) → (xs : List X) → sum_by f xs ≤ sum_by g xs
sum_le f g below [] = omega arith
sum_le f g below (x ∷ xs) = omega (arith, sum_by-cons f x xs, sum_by-cons g x xs, below x, sum_le f g below xs)

pub sum_split : {X : Type 0} (f g h : X → ℕ) → ((x : X) → f x + g x ≡ h x) → (xs : List X) → sum_by f xs + sum_by g xs ≡ sum_by h xs
sum_split f g h splits [] = refl
sum_split f g h splits (x ∷ xs) = omega (arith, sum_by-cons f x xs, sum_by-cons g x xs, sum_by-cons h x xs, splits x, sum_split f g h splits xs)

pub sum_alike : {X : Type 0} (f g : X → ℕ) → ((x : X) → f x ≡ g x) → (xs : List X) → sum_by f xs ≡ sum_by g xs
sum_alike f g alike [] = refl
sum_alike f g alike (x ∷ xs) = omega (arith, sum_by-cons f x xs, sum_by-cons g x xs, alike x, sum_alike f g alike xs)

-- tests of two numbers
pub one_same : (i j : ℕ) → i ≡ j → cond {A = ℕ} (i == j) 1 0 ≡ 1
one_same i j e = ap (λ b. cond {A = ℕ} b 1 0) (eq-eqb i j e)

pub one_other : (i j : ℕ) → i ≢ j → cond {A = ℕ} (i == j) 1 0 ≡ 0
one_other i j n = ap (λ b. cond {A = ℕ} b 1 0) (ne_eqb i j n)
