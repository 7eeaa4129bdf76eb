-- The order in which rows are placed is strict and total.
use Rattle.std.proofs.Common.{◌≡◌, ◌≢◌, ◌==◌, ℕ, ◌<◌, Bool, true, false, ◌&&◌, ◌||◌, List, [], ◌∷◌, length, inl, inr, refl, sym, ap, ◌∙◌, arith}
use Rattle.std.specs.Prelude.{nat_lt}
use Rattle.std.proofs.lemmas.Bool.{and_parts, and_from, or_left, or_right, or_parts, or_from, eqb-true, eq-eqb, true≢false}
use Rattle.dt_cells.specs.Held.{Row}
use Rattle.dt_cells.specs.HeldLaws.{by_cases, or_true}
use Rattle.dt_placing.specs.PlacingLaws.{lt_test, lt_tested}
use Rattle.dt_mrd.specs.Rows.{is_below, comes_before}

-- by two numbers, and where they are the same by a test
abbrev pub first_by : ℕ → ℕ → Bool → Bool
first_by m n then_by = nat_lt m n || ((m == n) && then_by)

not_less : (m n : ℕ) → m < n → nat_lt n m ≡ false
not_less m n h = grind arith

not_equal : (m n : ℕ) → m < n → (n == m) ≡ false
not_equal m n h = by_cases (n == m) (λ t. let e : n ≡ m = eqb-true n m t in absurd (omega (arith, h, e))) (λ f. f)

same_not_less : (m n : ℕ) → m ≡ n → nat_lt n m ≡ false
same_not_less m n h = grind (arith, h)

and_false : (a b : Bool) → (a ≡ true → b ≡ false) → (a && b) ≡ false
and_false true b f = f refl
and_false false b f = refl

pub first_strict : (m n : ℕ) (b c : Bool) → (b ≡ true → c ≡ false) → first_by m n b ≡ true → first_by n m c ≡ false
first_strict m n b c strict e = elim (or_true (nat_lt m n) ((m == n) && b) e) [
  | inl less ↦ or_from (nat_lt n m) ((n == m) && c) (not_less m n (lt_tested m n less))
      (ap (λ v. v && c) (not_equal m n (lt_tested m n less)))
  | inr both ↦ (let parts = and_parts (m == n) b both in
      or_from (nat_lt n m) ((n == m) && c) (same_not_less m n (eqb-true m n parts.0)) (and_false (n == m) c (λ t. strict parts.1)))
]

first_total : (m n : ℕ) (b c : Bool) → (m ≡ n → b ≡ false → c ≡ true) → first_by m n b ≡ false → first_by n m c ≡ true
first_total m n b c total e =
    let parts = or_parts (nat_lt m n) ((m == n) && b) e in
    by_cases (m == n)
    (λ t. (let same : m ≡ n = eqb-true m n t in
    or_right (nat_lt n m) ((n == m) && c) (and_from (n == m) c (eq-eqb n m (sym same))
    (total same (sym (ap (λ v. v && b) t) ∙ parts.1)))))
    (λ f. or_left (nat_lt n m) ((n == m) && c) (lt_test n m (greater (λ e. true≢false (sym (eq-eqb m n e) ∙ f)) parts.0)))
  where
    greater : m ≢ n → nat_lt m n ≡ false → n < m
    greater differs f = grind arith

pub below_strict : (a b : List ℕ) → is_below a b ≡ true → is_below b a ≡ false
below_strict [] [] e = refl
below_strict [] (o ∷ os) e = refl
below_strict (c ∷ cs) [] e = absurd (true≢false (sym e))
below_strict (c ∷ cs) (o ∷ os) e = first_strict c o (is_below cs os) (is_below os cs) (below_strict cs os) e

pub below_total : (a b : List ℕ) → a ≢ b → is_below a b ≡ false → is_below b a ≡ true
below_total [] [] differs e = absurd (differs refl)
below_total [] (o ∷ os) differs e = absurd (true≢false e)
below_total (c ∷ cs) [] differs e = refl
below_total (c ∷ cs) (o ∷ os) differs e = first_total c o (is_below cs os) (is_below os cs)
    (λ same f. below_total cs os (λ rest. differs (λ i. same i ∷ rest i)) f) e

pub before_strict : (row other : Row) → comes_before row other ≡ true → comes_before other row ≡ false
before_strict row other e = first_strict row.0 other.0 (first_by (length other.1) (length row.1) (is_below row.1 other.1)) (first_by (length row.1) (length other.1) (is_below other.1 row.1))
    (first_strict (length other.1) (length row.1) (is_below row.1 other.1) (is_below other.1 row.1) (below_strict row.1 other.1)) e

pub before_total : (row other : Row) → row ≢ other → comes_before row other ≡ false → comes_before other row ≡ true
before_total row other differs e = first_total row.0 other.0 (first_by (length other.1) (length row.1) (is_below row.1 other.1)) (first_by (length row.1) (length other.1) (is_below other.1 row.1))
    (λ same f. first_total (length other.1) (length row.1) (is_below row.1 other.1) (is_below other.1 row.1)
    (λ long g. below_total row.1 other.1 (λ rest. differs (λ i. (same i, rest i))) g) f) e
