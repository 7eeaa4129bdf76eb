-- Lists read and set at a place, and the longer of two.
use Rattle.std.proofs.Common.{◌≡◌, ℕ, zero, suc, ◌<◌, cond, List, [], ◌∷◌, map, length, length-append, get_or, set, refl, sym, ap, arith, le-ltb}
use mathlib.Core.List.{IsPrefix}
use mathlib.Core.Option.{some, some-injective, some-ne-none}
use lib.ListN.{get_elem?}
use Rattle.dt_gate.specs.Author.{longer}

-- a load leaves the words
pub set_self : (xs : List ℕ) (i : ℕ) → set xs i (get_or xs i 0) ≡ xs
set_self [] i = refl
set_self (x ∷ xs) zero = refl
set_self (x ∷ xs) (suc i) = ap (λ ys. x ∷ ys) (set_self xs i)

module _ {A B : Type 0} (f : A → B) where
  pub map-set : (xs : List A) (i : ℕ) (a : A) → map f (set xs i a) ≡ set (map f xs) i (f a)
  map-set [] i a = refl
  map-set (x ∷ xs) zero a = refl
  map-set (x ∷ xs) (suc i) a = ap (λ ys. f x ∷ ys) (map-set xs i a)

  pub at_mapped : (xs : List A) (d : A) (i : ℕ) (b : B) → get_elem? (map f xs) i ≡ some b → (i < length xs) × (f (get_or xs i d) ≡ b)
  at_mapped [] d i b e = absurd (some-ne-none b (sym e))
  at_mapped (x ∷ xs) d zero b e = (omega arith, some-injective (f x) b e)
  at_mapped (x ∷ xs) d (suc i) b e = let r = at_mapped xs d i b e in let below : i < length xs = r.0 in (omega arith, r.1)

-- of two lists of which one is a prefix the other is the longer
pub longer_whole : {A : Type 0} (whole other : List A) → IsPrefix other whole → longer whole other ≡ whole
longer_whole whole other p = ap (λ b. cond b other whole)
    (le-ltb (length whole) (length other) (omega (arith, ap length p.1, length-append other p.0)))
