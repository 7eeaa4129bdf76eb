-- The first class of a set from a bound on: the words that were looked at, and the bits that are left of one.
use Rattle.std.proofs.Common.{◌≡◌, ◌==◌, ℕ, ◌+◌, ◌-◌, ◌*◌, ◌/◌, ◌%◌, ◌^◌, ◌<◌, ◌≤◌, false, ◌&&◌, nat_le, List, length, get_or, None, Some, sym, ap, subst, ◌∙◌, arith, eq-eqb, inl, inr, w64}
use Rattle.std.proofs.lemmas.Bool.{cases_lt, le-leb, lt-leb, leb-true, and_parts, and_right, false_from_ne_true, false≢true}
use Rattle.std.proofs.lemmas.Nat.{shr-shr, shr_split, pow_pos}
use Rattle.std.proofs.lemmas.Nat.Bits.{bit_at-zero, bit_at_cat_low, bit_at_cat_high, bit_at-trailing_zeros}
use Rattle.std.specs.Int.{bit_at, trailing_zeros}
use native.Mathlib.Nat.{mod-eq_of_lt}
use Rattle.dt_graph.specs.Graph.{has_number}
use Rattle.dt_graph.specs.ClassSet.{has_bit, numbers_below}
use Rattle.dt_graph.specs.FirstFrom.{first_from}
use Rattle.dt_graph.proofs.AscendingSets.{IsFirstFrom, is_first_none, is_first_some, and_true}
use Rattle.dt_graph.proofs.ClassBits.{AscendingNumbers-below, has_number-below, has_bit_below}

-- no bit from the bound on is set in the words before this place; and `word` has the bits of the word here that are
-- from the bound on
pub record IsLookedAt (words : List ℕ) (least place word : ℕ) : Type 0 where
  pub inside : place < length words
  pub begun : least < 64 * place + 64
  pub fits : word < 2 ^ 64
  pub none_before : (n : ℕ) → least ≤ n → n < 64 * place → has_bit words n ≡ false
  pub rest : (i : ℕ) → i < 64 → (bit_at word i == 1) ≡ (has_bit words (64 * place + i) && nat_le least (64 * place + i))

-- the bit of a place of a word, by its number
has_bit-at : (words : List ℕ) (place i : ℕ) → i < 64 → has_bit words (64 * place + i) ≡ (bit_at (get_or words place 0) i == 1)
unfolding has_bit
has_bit-at words place i small =
    let word : (64 * place + i) / 64 ≡ place = omega arith in
    let bit : (64 * place + i) % 64 ≡ i = omega arith in
    ap (λ k. bit_at (get_or words k 0) ((64 * place + i) % 64) == 1) word ∙ ap (λ k. bit_at (get_or words place 0) k == 1) bit

-- without its low bits a word has those that are left
bit_at_high_low : (word s i : ℕ) → i < s → bit_at (word / 2 ^ s * 2 ^ s) i ≡ 0
bit_at_high_low word s i low =
    ap (λ w. bit_at w i) (omega arith) ∙ bit_at_cat_low (word / 2 ^ s) s 0 i low ∙ bit_at-zero i

bit_at_high : (word s i : ℕ) → s ≤ i → bit_at (word / 2 ^ s * 2 ^ s) i ≡ bit_at word i
bit_at_high word s i high =
    ap (λ w. bit_at w i) (omega arith)
    ∙ bit_at_cat_high (word / 2 ^ s) s 0 i (pow_pos s) high
    ∙ ap (λ x. x % 2) (shr-shr word s (i - s) ∙ ap (λ k. word / 2 ^ k) (omega arith))

high_le : (word s : ℕ) → word / 2 ^ s * 2 ^ s ≤ word
high_le word s = let split = shr_split word s in omega arith

-- the word of the bound without the bits below the bound
abbrev pub from_bound : List ℕ → ℕ → ℕ
from_bound words least = get_or words (least / 64) 0 / 2 ^ (least % 64) * 2 ^ (least % 64) % 2 ^ 64

pub IsLookedAt-first : (words : List ℕ) (least : ℕ) → least / 64 < length words → get_or words (least / 64) 0 < 2 ^ 64
    → IsLookedAt words least (least / 64) (from_bound words least)
IsLookedAt-first words least inside fits =
    let place : ℕ = least / 64 in
    let word : ℕ = get_or words place 0 in
    let s : ℕ = least % 64 in
    let less : word / 2 ^ s * 2 ^ s < 2 ^ 64 = omega (arith, high_le word s) in
    let whole : from_bound words least ≡ word / 2 ^ s * 2 ^ s = mod-eq_of_lt less in record {
      inside = inside;
      begun = omega arith;
      fits = omega arith;
      none_before = λ n from to. absurd (omega arith);
      rest = λ i small. ap (λ w. bit_at w i == 1) whole ∙ elim (cases_lt i s) [
        | inl low ↦
            ap (λ b. b == 1) (bit_at_high_low word s i low)
            ∙ sym (and_right (has_bit words (64 * place + i)) (nat_le least (64 * place + i)) (lt-leb least (64 * place + i) (omega arith)))
        | inr high ↦
            ap (λ b. b == 1) (bit_at_high word s i high)
            ∙ sym (has_bit-at words place i small)
            ∙ sym (and_true (has_bit words (64 * place + i)) (nat_le least (64 * place + i)) (le-leb least (64 * place + i) (omega arith)))
      ];
    }

-- nothing of the word is left, so none of its bits from the bound on is set
none_here : (words : List ℕ) (least place : ℕ) → IsLookedAt words least place 0 → (n : ℕ) → least ≤ n → n < 64 * place + 64 → has_bit words n ≡ false
none_here words least place looked n from to =
    elim (cases_lt n (64 * place)) [
      | inl before ↦ looked.none_before n from before
      | inr after ↦
          let i : ℕ = n - 64 * place in
          let number : n ≡ 64 * place + i = omega arith in
          let unset : (has_bit words (64 * place + i) && nat_le least (64 * place + i)) ≡ false =
          sym (looked.rest i (omega arith)) ∙ ap (λ b. b == 1) (bit_at-zero i) in
          ap (has_bit words) number
          ∙ sym (and_true (has_bit words (64 * place + i)) (nat_le least (64 * place + i)) (le-leb least (64 * place + i) (omega arith)))
          ∙ unset
    ]

pub IsLookedAt-more : (words : List ℕ) (least place word : ℕ) → IsLookedAt words least place word → word ≡ 0 → place + 1 < length words → get_or words (place + 1) 0 < 2 ^ 64
    → IsLookedAt words least (place + 1) (get_or words (place + 1) 0)
IsLookedAt-more words least place word looked empty inside fits =
    let begun = looked.begun in record {
      inside = inside;
      begun = omega arith;
      fits = fits;
      none_before = λ n from to. none_here words least place (subst (IsLookedAt words least place) empty looked) n from (omega arith);
      rest = λ i small.
          sym (has_bit-at words (place + 1) i small)
          ∙ sym (and_true (has_bit words (64 * (place + 1) + i)) (nat_le least (64 * (place + 1) + i)) (le-leb least (64 * (place + 1) + i) (omega arith)));
    }

-- the last word is looked at, and nothing of it is left
pub none_left : (limit : ℕ) (words numbers : List ℕ) (least place word : ℕ) → numbers_below limit words ≡ numbers → limit ≡ 64 * length words
    → IsLookedAt words least place word → word ≡ 0 → place + 1 ≡ length words → None ≡ first_from least numbers
none_left limit words numbers least place word shown all looked empty last =
    let none : (n : ℕ) → least ≤ n → has_number (numbers_below limit words) n ≡ false = λ n from.
    has_number-below limit words n all
    ∙ false_from_ne_true (has_bit words n) (λ bit.
    let low = has_bit_below words n bit in
    absurd (false≢true (sym (none_here words least place (subst (IsLookedAt words least place) empty looked) n from (omega arith)) ∙ bit))) in
    sym (is_first_none (numbers_below limit words) least none) ∙ ap (first_from least) shown

-- the bound is past all words
pub none_past : (limit : ℕ) (words numbers : List ℕ) (least : ℕ) → numbers_below limit words ≡ numbers → limit ≡ 64 * length words → limit ≤ least
    → None ≡ first_from least numbers
none_past limit words numbers least shown all past =
    let none : (n : ℕ) → least ≤ n → has_number (numbers_below limit words) n ≡ false = λ n from.
    has_number-below limit words n all
    ∙ false_from_ne_true (has_bit words n) (λ bit. let low = has_bit_below words n bit in absurd (omega arith)) in
    sym (is_first_none (numbers_below limit words) least none) ∙ ap (first_from least) shown

-- the lowest bit that is left is the first
pub found : (limit : ℕ) (words numbers : List ℕ) (least place word number : ℕ) → numbers_below limit words ≡ numbers → limit ≡ 64 * length words
    → IsLookedAt words least place word → 0 < word → number ≡ place * 64 + trailing_zeros w64 word → Some number ≡ first_from least numbers
found limit words numbers least place word number shown all looked some here =
    let i : ℕ = trailing_zeros w64 word in
    let lowest = bit_at-trailing_zeros w64 word some looked.fits in
    let both = and_parts (has_bit words (64 * place + i)) (nat_le least (64 * place + i)) (sym (looked.rest i lowest.0) ∙ eq-eqb (bit_at word i) 1 lowest.1) in
    let enough = leb-true least (64 * place + i) both.1 in
    let first : IsFirstFrom (numbers_below limit words) least number = record {
      listed = has_number-below limit words number all ∙ ap (has_bit words) (omega arith) ∙ both.0;
      more = omega arith;
      none_between = λ n from to.
          has_number-below limit words n all
          ∙ elim (cases_lt n (64 * place)) [
            | inl before ↦ looked.none_before n from before
            | inr after ↦
                let j : ℕ = n - 64 * place in
                let place_of_n : n ≡ 64 * place + j = omega arith in
                let unset : (has_bit words (64 * place + j) && nat_le least (64 * place + j)) ≡ false =
                sym (looked.rest j (let small = lowest.0 in omega arith)) ∙ ap (λ b. b == 1) (lowest.2 j (omega arith)) in
                ap (has_bit words) place_of_n
                ∙ sym (and_true (has_bit words (64 * place + j)) (nat_le least (64 * place + j)) (le-leb least (64 * place + j) (omega arith)))
                ∙ unset
          ];
    } in
    sym (is_first_some (numbers_below limit words) least number (AscendingNumbers-below limit words) first) ∙ ap (first_from least) shown

-- the place of that bit is one of a class
pub found_inside : (words : List ℕ) (least place word : ℕ) → IsLookedAt words least place word → 0 < word → place * 64 + trailing_zeros w64 word < 64 * length words
found_inside words least place word looked some =
    let lowest = bit_at-trailing_zeros w64 word some looked.fits in
    omega (arith, looked.inside, lowest.0)
