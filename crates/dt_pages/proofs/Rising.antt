-- Ascending lists of numbers, and what stands in them.
use Rattle.std.proofs.Common.{◌≡◌, ◌⊎◌, ◌↔◌, ℕ, zero, suc, ◌+◌, ◌<◌, ◌≤◌, ◌==◌, Bool, true, false, cond, List, [], ◌∷◌, ◌++◌, map, filter, length, get_or, Contains, refl, sym, ap, subst, ◌∙◌, inl, inr, arith, eqb, eqb-true, true≢false}
use Rattle.std.specs.List.{dedup, dedup_from}
use Rattle.std.proofs.lemmas.List.Kept.{Contains-dedup_nat, Contains-from_dedup}
use Rattle.std.proofs.lemmas.Bool.Decides.{nat_tests}

abbrev pub In : ℕ → List ℕ → Type 0
In n [] = ⊥
In n (m ∷ ms) = (n ≡ m) ⊎ In n ms

pub to_contains : (n : ℕ) (ms : List ℕ) → In n ms → Contains ms n
to_contains n [] none = absurd none
to_contains n (m ∷ ms) (inl same) = (0, omega arith, sym same)
to_contains n (m ∷ ms) (inr rest) = let found = to_contains n ms rest in (suc found.0, omega (arith, found.1), found.2)

at_index : (n : ℕ) (ms : List ℕ) (k : ℕ) → k < length ms → get_or ms k n ≡ n → In n ms
at_index n [] k below is = absurd (omega (arith, below))
at_index n (m ∷ ms) zero below is = inl (sym is)
at_index n (m ∷ ms) (suc k) below is = inr (at_index n ms k (omega (arith, below)) is)

pub from_contains : (n : ℕ) (ms : List ℕ) → Contains ms n → In n ms
from_contains n ms found = at_index n ms found.0 found.1 found.2

pub in_dedup : (n : ℕ) (ms : List ℕ) → In n (dedup (λ a b. a == b) ms) ↔ In n ms
in_dedup n ms = (
  (λ found. from_contains n ms (Contains-from_dedup eqb ms n (to_contains n (dedup eqb ms) found))),
  (λ found. from_contains n (dedup eqb ms) (Contains-dedup_nat ms n (to_contains n ms found))),
)

pub in_append : (n : ℕ) (xs ys : List ℕ) → In n (xs ++ ys) ↔ (In n xs ⊎ In n ys)
in_append n [] ys = ((λ found. inr found), (λ found. elim found [ inl none ↦ absurd none | inr there ↦ there ]))
in_append n (x ∷ xs) ys = let rest = in_append n xs ys in (forward rest.0, backward rest.1)
  where
    forward : (In n (xs ++ ys) → In n xs ⊎ In n ys) → (n ≡ x) ⊎ In n (xs ++ ys) → ((n ≡ x) ⊎ In n xs) ⊎ In n ys
    forward rest (inl same) = inl (inl same)
    forward rest (inr there) = elim (rest there) [ inl a ↦ inl (inr a) | inr b ↦ inr b ]

    backward : (In n xs ⊎ In n ys → In n (xs ++ ys)) → ((n ≡ x) ⊎ In n xs) ⊎ In n ys → (n ≡ x) ⊎ In n (xs ++ ys)
    backward rest (inl (inl same)) = inl same
    backward rest (inl (inr there)) = inr (rest (inl there))
    backward rest (inr there) = inr (rest (inr there))

pub in_map : (f : ℕ → ℕ) (n : ℕ) (xs : List ℕ) → In n (map f xs) ↔ ((x : ℕ) × In x xs × (f x ≡ n))
in_map f n [] = ((λ none. absurd none), (λ found. absurd found.1))
in_map f n (x ∷ xs) = let rest = in_map f n xs in (forward rest.0, backward rest.1)
  where
    forward : (In n (map f xs) → (y : ℕ) × In y xs × (f y ≡ n)) → (n ≡ f x) ⊎ In n (map f xs) → (y : ℕ) × ((y ≡ x) ⊎ In y xs) × (f y ≡ n)
    forward rest (inl same) = (x, inl refl, sym same)
    forward rest (inr there) = let found = rest there in (found.0, inr found.1, found.2)

    backward : ((y : ℕ) × In y xs × (f y ≡ n) → In n (map f xs)) → (y : ℕ) × ((y ≡ x) ⊎ In y xs) × (f y ≡ n) → (n ≡ f x) ⊎ In n (map f xs)
    backward rest (y, inl same, is) = inl (sym is ∙ ap f same)
    backward rest (y, inr there, is) = inr (rest (y, there, is))

pub in_filter : (test : ℕ → Bool) (n : ℕ) (xs : List ℕ) → In n (filter test xs) ↔ (In n xs × (test n ≡ true))
in_filter test n [] = ((λ none. absurd none), (λ found. found.0))
in_filter test n (x ∷ xs) = go (test x) refl (in_filter test n xs)
  where
    go : (b : Bool) → test x ≡ b → In n (filter test xs) ↔ (In n xs × (test n ≡ true))
        → In n (cond b (x ∷ filter test xs) (filter test xs)) ↔ (((n ≡ x) ⊎ In n xs) × (test n ≡ true))
    go true is rest = (
      (λ found. elim found [ inl same ↦ (inl same, ap test same ∙ is) | inr there ↦ let f = rest.0 there in (inr f.0, f.1) ]),
      (λ found. elim found.0 [ inl same ↦ inl same | inr there ↦ inr (rest.1 (there, found.1)) ]),
    )
    go false is rest = (
      (λ found. let f = rest.0 found in (inr f.0, f.1)),
      (λ found. elim found.0 [ inl same ↦ absurd (true≢false (sym found.1 ∙ ap test same ∙ is)) | inr there ↦ rest.1 (there, found.1) ]),
    )

-- ---- lists that rise, from this number on

abbrev pub Rising : ℕ → List ℕ → Type 0
Rising low [] = Unit {0}
Rising low (x ∷ xs) = (low ≤ x) × Rising (suc x) xs

abbrev pub NonFalling : ℕ → List ℕ → Type 0
NonFalling low [] = Unit {0}
NonFalling low (x ∷ xs) = (low ≤ x) × NonFalling x xs

pub rising_lower : (low lower : ℕ) (xs : List ℕ) → lower ≤ low → Rising low xs → Rising lower xs
rising_lower low lower [] less rise = tt
rising_lower low lower (x ∷ xs) less rise = (omega (arith, less, rise.0), rise.1)

pub falling_lower : (low lower : ℕ) (xs : List ℕ) → lower ≤ low → NonFalling low xs → NonFalling lower xs
falling_lower low lower [] less rise = tt
falling_lower low lower (x ∷ xs) less rise = (omega (arith, less, rise.0), rise.1)

pub rising_low : (low n : ℕ) (xs : List ℕ) → Rising low xs → In n xs → low ≤ n
rising_low low n [] rise none = absurd none
rising_low low n (x ∷ xs) rise (inl same) = omega (arith, rise.0, same)
rising_low low n (x ∷ xs) rise (inr there) = omega (arith, rise.0, rising_low (suc x) n xs rise.1 there)

pub rising_append : (low middle : ℕ) (xs ys : List ℕ) → low ≤ middle → Rising low xs → ((n : ℕ) → In n xs → n < middle) → Rising middle ys → Rising low (xs ++ ys)
rising_append low middle [] ys less rise under next = rising_lower middle low ys less next
rising_append low middle (x ∷ xs) ys less rise under next =
    (rise.0, rising_append (suc x) middle xs ys (omega (arith, under x (inl refl))) rise.1 (λ n there. under n (inr there)) next)

pub rising_filter : (test : ℕ → Bool) (low : ℕ) (xs : List ℕ) → Rising low xs → Rising low (filter test xs)
rising_filter test low [] rise = tt
rising_filter test low (x ∷ xs) rise = go (test x) (rising_filter test (suc x) xs rise.1)
  where
    go : (b : Bool) → Rising (suc x) (filter test xs) → Rising low (cond b (x ∷ filter test xs) (filter test xs))
    go true rest = (rise.0, rest)
    go false rest = rising_lower (suc x) low (filter test xs) (omega (arith, rise.0)) rest

-- two that have the same are the same
pub same_rising : (low : ℕ) (xs ys : List ℕ) → Rising low xs → Rising low ys → ((n : ℕ) → In n xs ↔ In n ys) → xs ≡ ys
same_rising low [] [] a b same = refl
same_rising low [] (y ∷ ys) a b same = absurd ((same y).1 (inl refl))
same_rising low (x ∷ xs) [] a b same = absurd ((same x).0 (inl refl))
same_rising low (x ∷ xs) (y ∷ ys) a b same =
    let first : x ≡ y = heads ((same x).0 (inl refl)) ((same y).1 (inl refl)) in
    ap (λ n. n ∷ xs) first ∙ ap (λ rest. y ∷ rest)
    (same_rising (suc x) xs ys a.1 (subst (λ n. Rising (suc n) ys) (sym first) b.1) (λ n. (
      (λ there. elim ((same n).0 (inr there)) [ inl is ↦ absurd (let high = rising_low (suc x) n xs a.1 there in omega (arith, high, is, first)) | inr found ↦ found ]),
      (λ there. elim ((same n).1 (inr there)) [ inl is ↦ absurd (let high = rising_low (suc y) n ys b.1 there in omega (arith, high, is, first)) | inr found ↦ found ]),
    )))
  where
    heads : In x (y ∷ ys) → In y (x ∷ xs) → x ≡ y
    heads (inl is) other = is
    heads (inr there) (inl is) = sym is
    heads (inr there) (inr here) = absurd (let high = rising_low (suc y) x ys b.1 there in let low = rising_low (suc x) y xs a.1 here in omega (arith, high, low))

-- ---- each once

rising_from : (low first : ℕ) (xs : List ℕ) → low ≤ first → NonFalling first xs → Rising low (dedup_from (λ a b. a == b) first xs)
rising_from low first [] less rise = (less, tt)
rising_from low first (x ∷ xs) less rise = go (x == first) refl
    (λ same. rising_from low first xs less (subst (λ n. NonFalling n xs) same rise.1))
    (λ over. rising_from (suc first) x xs over rise.1)
  where
    over : (x == first) ≡ false → suc first ≤ x
    over other = let high = rise.0 in grind (arith, nat_tests)

    go : (b : Bool) → (x == first) ≡ b → (x ≡ first → Rising low (dedup_from (λ a b. a == b) first xs))
        → (suc first ≤ x → Rising (suc first) (dedup_from (λ a b. a == b) x xs))
        → Rising low (cond b (dedup_from (λ a b. a == b) first xs) (first ∷ dedup_from (λ a b. a == b) x xs))
    go true is here next = here (eqb-true x first is)
    go false is here next = (less, next (over is))

pub rising_dedup : (low : ℕ) (xs : List ℕ) → NonFalling low xs → Rising low (dedup (λ a b. a == b) xs)
rising_dedup low [] rise = tt
rising_dedup low (x ∷ xs) rise = rising_from low x xs rise.0 rise.1

-- numbers that rise below a bound are no more than it leaves room for
pub rising_few : (low high : ℕ) (xs : List ℕ) → low ≤ high → Rising low xs → ((n : ℕ) → In n xs → n < high) → low + length xs ≤ high
rising_few low high [] less rise under = omega (arith, less)
rising_few low high (x ∷ xs) less rise under =
    let rest = rising_few (suc x) high xs (under x (inl refl)) rise.1 (λ n there. under n (inr there)) in omega (arith, rest, rise.0)

-- each number stands at one place
above : (low k : ℕ) (xs : List ℕ) → Rising low xs → k < length xs → low ≤ get_or xs k 0
above low k [] rise below = absurd (omega (arith, below))
above low zero (x ∷ xs) rise below = rise.0
above low (suc k) (x ∷ xs) rise below = let rest = above (suc x) k xs rise.1 (omega (arith, below)) in omega (arith, rest, rise.0)

pub rising_once : (low j k : ℕ) (xs : List ℕ) → Rising low xs → j < length xs → k < length xs → get_or xs j 0 ≡ get_or xs k 0 → j ≡ k
rising_once low j k [] rise a b same = absurd (omega (arith, a))
rising_once low zero zero (x ∷ xs) rise a b same = refl
rising_once low zero (suc k) (x ∷ xs) rise a b same = absurd (let high = above (suc x) k xs rise.1 (omega (arith, b)) in omega (arith, high, same))
rising_once low (suc j) zero (x ∷ xs) rise a b same = absurd (let high = above (suc x) j xs rise.1 (omega (arith, a)) in omega (arith, high, same))
rising_once low (suc j) (suc k) (x ∷ xs) rise a b same = ap suc (rising_once (suc x) j k xs rise.1 (omega (arith, a)) (omega (arith, b)) same)

pub in_at : (k : ℕ) (xs : List ℕ) → k < length xs → In (get_or xs k 0) xs
in_at k [] below = absurd (omega (arith, below))
in_at zero (x ∷ xs) below = inl refl
in_at (suc k) (x ∷ xs) below = inr (in_at k xs (omega (arith, below)))
