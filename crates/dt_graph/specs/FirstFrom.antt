-- The first number of a list from a bound on, by which a set is walked.
use Rattle.std.specs.Prelude.{◌≡◌, ℕ, nat_le, List, [], ◌∷◌, Option, find, Some, refl}

-- the first of the numbers that is this one or more
abbrev pub first_from : ℕ → List ℕ → Option ℕ
first_from least numbers = find (λ n. nat_le least n) numbers

the_first_from_three : first_from 3 (0 ∷ 2 ∷ 64 ∷ 69 ∷ []) ≡ Some 64
the_first_from_three = refl
