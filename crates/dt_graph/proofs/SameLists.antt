-- The test of two lists of numbers decides whether they are equal.
use Rattle.std.proofs.Common.{◌≡◌, ◌==◌, ℕ, true, nat_eq, List, [], ◌∷◌, refl, sym, ◌∙◌, eq-eqb}
use Rattle.std.proofs.lemmas.Bool.Decides.{nat_tests}
use Rattle.std.proofs.Common.{arith}
use Rattle.std.specs.Cmp.Lexicographic.{pointwise, bytes_decides}
use Rattle.dt_graph.specs.SameLists.{same_list}

pub same_list-self : (xs : List ℕ) → same_list xs xs ≡ true
same_list-self [] = refl
same_list-self (x ∷ xs) = rw (eq-eqb x x refl) (same_list-self xs)

eqb-swap : (x y : ℕ) → (x == y) ≡ (y == x)
eqb-swap x y = grind (arith, nat_tests)

-- it is the test that slices make
pub same_list-pointwise : (xs ys : List ℕ) → same_list xs ys ≡ pointwise nat_eq ys xs
same_list-pointwise [] [] = refl
same_list-pointwise [] (y ∷ ys) = refl
same_list-pointwise (x ∷ xs) [] = refl
same_list-pointwise (x ∷ xs) (y ∷ ys) = rw (eqb-swap x y, same_list-pointwise xs ys) refl

pub same_list_equal : (xs ys : List ℕ) → same_list xs ys ≡ true → xs ≡ ys
same_list_equal xs ys e = sym ((bytes_decides ys xs).0 (sym (same_list-pointwise xs ys) ∙ e))
