-- When two lists of numbers are the same: texts by their bytes, lists of classes by their numbers.
use Rattle.std.specs.Prelude.{◌≡◌, ◌==◌, ℕ, Bool, true, false, ◌&&◌, List, [], ◌∷◌, refl}

-- whether they have the same numbers in the same order
abbrev pub same_list : List ℕ → List ℕ → Bool
same_list [] [] = true
same_list [] (y ∷ ys) = false
same_list (x ∷ xs) [] = false
same_list (x ∷ xs) (y ∷ ys) = (x == y) && same_list xs ys

the_same_in_order : same_list (4 ∷ 7 ∷ []) (4 ∷ 7 ∷ []) ≡ true
the_same_in_order = refl

another_order_is_another_list : same_list (4 ∷ 7 ∷ []) (7 ∷ 4 ∷ []) ≡ false
another_order_is_another_list = refl
