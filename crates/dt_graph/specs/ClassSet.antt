-- What the words of a class set stand for: the numbers whose bits are set.
use Rattle.std.specs.Prelude.{◌≡◌, ◌==◌, ℕ, ◌/◌, ◌%◌, Bool, List, [], ◌∷◌, filter, slice_index, refl}
use Rattle.std.specs.Int.{bit_at}
use Rattle.std.specs.List.{range_with_len}

-- whether the bit of the number is set: a word holds 64 bits, the lowest number's lowest
unfoldable pub has_bit : List ℕ → ℕ → Bool
has_bit words number = bit_at (slice_index words (number / 64)) (number % 64) == 1

-- the numbers below the limit whose bits are set, in ascending order
unfoldable pub numbers_below : ℕ → List ℕ → List ℕ
numbers_below limit words = filter (has_bit words) (range_with_len 0 limit)

two_words : numbers_below 128 (5 ∷ 33 ∷ []) ≡ 0 ∷ 2 ∷ 64 ∷ 69 ∷ []
unfolding numbers_below has_bit
two_words = refl
