-- The order of lists of classes: it is strict and total, and lists that are the same are equal.
use Rattle.std.proofs.Common.{◌≡◌, ℕ, false, List, [], ◌∷◌, refl, arith, IsTrue}
use Rattle.std.proofs.lemmas.Bool.Decides.{nat_tests}
use Rattle.dt_definitions.specs.Program.{same_classes, are_classes_before}

-- a list isn't before itself
pub before-irrefl : (xs : List ℕ) → are_classes_before xs xs ≡ false
before-irrefl [] = refl
before-irrefl (x ∷ xs) = let r = before-irrefl xs in grind (arith, nat_tests)

pub before-trans : (xs ys zs : List ℕ)
    → IsTrue (are_classes_before xs ys) → IsTrue (are_classes_before ys zs) → IsTrue (are_classes_before xs zs)
before-trans [] (y ∷ ys) (z ∷ zs) p q = refl
before-trans (x ∷ xs) (y ∷ ys) (z ∷ zs) p q = let r = before-trans xs ys zs in grind (arith, nat_tests)
before-trans xs ys zs p q = cc

-- of two lists one is before the other, or they are the same
pub before-total : (xs ys : List ℕ)
    → are_classes_before xs ys ≡ false → same_classes xs ys ≡ false → IsTrue (are_classes_before ys xs)
before-total [] [] b s = cc
before-total [] (y ∷ ys) b s = cc
before-total (x ∷ xs) [] b s = refl
before-total (x ∷ xs) (y ∷ ys) b s = let r = before-total xs ys in grind (arith, nat_tests)

pub same-sym : (xs ys : List ℕ) → same_classes xs ys ≡ same_classes ys xs
same-sym [] [] = refl
same-sym (x ∷ xs) (y ∷ ys) = let r = same-sym xs ys in grind (arith, nat_tests)
same-sym xs ys = refl
