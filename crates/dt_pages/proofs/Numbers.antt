-- Tests of numbers, by the order and by equality.
use Rattle.std.proofs.Common.{◌≡◌, ℕ, ◌==◌, Bool, true, false, refl, arith}
use Rattle.std.proofs.lemmas.Bool.Decides.{nat_tests}
use Rattle.std.specs.Ordering.{nat_cmp, eq_by_cmp}

pub by_cases : {G : Type 0} (b : Bool) → (b ≡ true → G) → (b ≡ false → G) → G
by_cases true f g = f refl
by_cases false f g = g refl

-- two numbers are equal in their order where they are equal
pub is_number : (a b : ℕ) → eq_by_cmp nat_cmp a b ≡ (a == b)
is_number a b = grind (arith, nat_tests)

pub is_number_too : (a b : ℕ) → eq_by_cmp nat_cmp a b ≡ (b == a)
is_number_too a b = grind (arith, nat_tests)
