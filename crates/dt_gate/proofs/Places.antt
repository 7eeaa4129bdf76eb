-- Places in a list that pass a test are no more than a list that names each of them.
use Rattle.std.proofs.Common.{◌≡◌, ◌≢◌, ◌⊎◌, ℕ, suc, ◌+◌, ◌<◌, ◌≤◌, ◌==◌, ◌||◌, Bool, true, false, cond, List, [], ◌∷◌, length, get_or, count_by, refl, sym, ap, subst, ◌∙◌, inl, inr, arith, eqb-true, eq-eqb, true≢false}
use Rattle.std.proofs.lemmas.List.Sums.{sum_by-cons}
use native.Mathlib.Decide.{ℕ_discrete}
use Rattle.dt_gate.specs.Gate.{stands_in}

pub or_of : (a b : Bool) → (a || b) ≡ true → (a ≡ true) ⊎ (b ≡ true)
or_of true b is = inl refl
or_of false b is = inr is

pub or_first : (a b : Bool) → a ≡ true → (a || b) ≡ true
or_first a b is = ap (λ c. c || b) is

pub or_second : (a b : Bool) → b ≡ true → (a || b) ≡ true
or_second true b is = refl
or_second false b is = is

-- a number stands in x and the rest: it is x, or stands in the rest
pub in_cons : (x y : ℕ) (xs : List ℕ) → stands_in y (x ∷ xs) ≡ true → (x ≡ y) ⊎ (stands_in y xs ≡ true)
in_cons x y xs is = go (or_of (x == y) (stands_in y xs) is)
  where
    go : ((x == y) ≡ true) ⊎ (stands_in y xs ≡ true) → (x ≡ y) ⊎ (stands_in y xs ≡ true)
    go (inl e) = inl (eqb-true x y e)
    go (inr e) = inr e

pub in_head : (x y : ℕ) (xs : List ℕ) → x ≡ y → stands_in y (x ∷ xs) ≡ true
in_head x y xs e = or_first (x == y) (stands_in y xs) (eq-eqb x y e)

pub in_tail : (x y : ℕ) (xs : List ℕ) → stands_in y xs ≡ true → stands_in y (x ∷ xs) ≡ true
in_tail x y xs is = or_second (x == y) (stands_in y xs) is

pub record Without (x : ℕ) (xs : List ℕ) : Type 0 where
  pub rest : List ℕ
  pub one_less : length xs ≡ length rest + 1
  pub others : (y : ℕ) → x ≢ y → stands_in y xs ≡ true → stands_in y rest ≡ true

pub without : (x : ℕ) (xs : List ℕ) → stands_in x xs ≡ true → Without x xs
without x [] is = absurd (true≢false (sym is))
without x (z ∷ xs) is = elim (ℕ_discrete z x) [
  | yes e ↦ record { rest = xs; one_less = omega arith; others = λ y n h. drop_head y n (in_cons z y xs h) e }
  | no n ↦ let less = without x xs (not_head n (in_cons z x xs is)) in
      record { rest = z ∷ less.rest; one_less = omega (arith, less.one_less); others = λ y m h. keep_head less y m (in_cons z y xs h) }
]
  where
    drop_head : (y : ℕ) → x ≢ y → (z ≡ y) ⊎ (stands_in y xs ≡ true) → z ≡ x → stands_in y xs ≡ true
    drop_head y n (inl same) e = absurd (n (sym e ∙ same))
    drop_head y n (inr h) e = h

    not_head : z ≢ x → (z ≡ x) ⊎ (stands_in x xs ≡ true) → stands_in x xs ≡ true
    not_head n (inl same) = absurd (n same)
    not_head n (inr h) = h

    keep_head : (less : Without x xs) (y : ℕ) → x ≢ y → (z ≡ y) ⊎ (stands_in y xs ≡ true) → stands_in y (z ∷ less.rest) ≡ true
    keep_head less y m (inl same) = in_head z y less.rest same
    keep_head less y m (inr h) = in_tail z y less.rest (less.others y m h)

pub count_places : {X : Type 0} (p : X → Bool) (d : X) (xs : List X) (base : ℕ) (places : List ℕ)
    → ((i : ℕ) → i < length xs → p (get_or xs i d) ≡ true → stands_in (base + i) places ≡ true) → count_by p xs ≤ length places
count_places p d [] base places named = omega arith
count_places {X} p d (x ∷ xs) base places named = go (λ names. count_places p d xs (base + 1) names) (p x) refl
  where
    next : (i : ℕ) → i < length xs → p (get_or xs i d) ≡ true → stands_in (base + 1 + i) places ≡ true
    next i below is = let same : base + suc i ≡ base + 1 + i = omega arith in subst (λ k. stands_in k places ≡ true) same (named (suc i) (omega arith) is)

    Rest : Type 0
    Rest = (names : List ℕ) → ((i : ℕ) → i < length xs → p (get_or xs i d) ≡ true → stands_in (base + 1 + i) names ≡ true) → count_by p xs ≤ length names

    go : Rest → (b : Bool) → p x ≡ b → count_by p (x ∷ xs) ≤ length places
    go more false e = omega (arith, sum_by-cons (λ y. cond {A = ℕ} (p y) 1 0) x xs, ap (λ b. cond {A = ℕ} b 1 0) e, more places next)
    go more true e =
        let here : stands_in base places ≡ true = (let same : base + 0 ≡ base = omega arith in subst (λ k. stands_in k places ≡ true) same (named 0 (omega arith) e)) in
        let less : Without base places = without base places here in
        omega (
          arith,
          sum_by-cons (λ y. cond {A = ℕ} (p y) 1 0) x xs,
          ap (λ b. cond {A = ℕ} b 1 0) e,
          less.one_less,
          more less.rest (λ i below is. less.others (base + 1 + i) (omega arith) (next i below is)),
        )
