-- Bits in words: one bit read, set or cleared, and the 64 bits from any one on.
use Rattle.std.proofs.Common.{◌≡◌, ◌==◌, ℕ, ◌+◌, ◌-◌, ◌*◌, ◌/◌, ◌%◌, ◌^◌, ◌<◌, ◌≤◌, true, false, not, ◌&&◌, ◌||◌, List, [], ◌++◌, length, get_or, set, replicate, refl, sym, ap, ◌∙◌, arith, eq-eqb, ne_eqb, inl, inr, w64, max}
use Rattle.std.proofs.lemmas.Bool.{or_left, and_left, cases_eq, cases_lt, false≢true}
use Rattle.std.proofs.lemmas.List.{get_or_past, get_or-replicate, get_or-set_same, get_or-set_other, get_or_append_left, get_or-append_right, length-replicate}
use Rattle.std.proofs.lemmas.Nat.{shr-shr, shr_split, pow_pos}
use Rattle.std.proofs.lemmas.Nat.Bits.{bit_at-zero, bit_at_or, bit_at_above, bit_at_cat_low, bit_at_cat_high, bit_at_set_same, bit_at_set_other, bit_at_clear_same, bit_at_clear_other, shr_and_one}
use Rattle.std.specs.Prelude.{bit_and, bit_or}
use Rattle.std.specs.Int.{bit_at, bit_not}
use Rattle.dt_graph.specs.ClassSet.{has_bit}

-- what the shift and the mask test
pub bit_read : (words : List ℕ) (bit : ℕ) → (bit_and (get_or words (bit / 64) 0 / 2 ^ (bit % 64)) 1 == 1) ≡ has_bit words bit
unfolding has_bit
bit_read words bit = ap (λ b. b == 1) (shr_and_one (get_or words (bit / 64) 0) (bit % 64))

-- the bit by its word and its place there
pub has_bit-at : (words : List ℕ) (bit at place : ℕ) → bit / 64 ≡ at → bit % 64 ≡ place → has_bit words bit ≡ (bit_at (get_or words at 0) place == 1)
unfolding has_bit
has_bit-at words bit at place same_word same_place =
    ap (λ k. bit_at (get_or words k 0) (bit % 64) == 1) same_word ∙ ap (λ k. bit_at (get_or words at 0) k == 1) same_place

pub no_bit : (bit : ℕ) → has_bit [] bit ≡ false
unfolding has_bit
no_bit bit = ap (λ b. b == 1) (ap (λ w. bit_at w (bit % 64)) (get_or_past {X = ℕ} [] (bit / 64) 0 (omega arith)) ∙ bit_at-zero (bit % 64))

-- words that are 0 tell of no further bit
pub has_bit-grown : (words : List ℕ) (count bit : ℕ) → has_bit (words ++ replicate count 0) bit ≡ has_bit words bit
unfolding has_bit
has_bit-grown words count bit =
    let at : ℕ = bit / 64 in
    ap (λ w. bit_at w (bit % 64) == 1)
    (elim (cases_lt at (length words)) [
      | inl inside ↦ get_or_append_left words (replicate count 0) 0 at inside
      | inr past ↦
          get_or-append_right words (replicate count 0) (length words) at 0 refl past
          ∙ elim (cases_lt (at - length words) count) [
            | inl zeros ↦ get_or-replicate count (at - length words) 0 0 zeros
            | inr beyond ↦ get_or_past (replicate count 0) (at - length words) 0 (omega (arith, length-replicate {A = ℕ} count 0))
          ]
          ∙ sym (get_or_past words at 0 past)
    ])

-- ---- 64 bits from one on

low_part : (word s j : ℕ) → bit_at (word / 2 ^ s) j ≡ bit_at word (s + j)
low_part word s j = ap (λ x. x % 2) (shr-shr word s j)

-- the bits of a number that are kept where it is cut to 64
cut : (x j : ℕ) → j < 64 → bit_at (x % 2 ^ 64) j ≡ bit_at x j
cut x j small = sym (bit_at_cat_low (x / 2 ^ 64) 64 (x % 2 ^ 64) j small) ∙ ap (λ n. bit_at n j) (shr_split x 64)

high_part_none : (word t j : ℕ) → j < 64 → j < t → bit_at (word * 2 ^ t % 2 ^ 64) j ≡ 0
high_part_none word t j small below =
    cut (word * 2 ^ t) j small ∙ ap (λ n. bit_at n j) (omega arith) ∙ bit_at_cat_low word t 0 j below ∙ bit_at-zero j

high_part : (word t j : ℕ) → j < 64 → t ≤ j → bit_at (word * 2 ^ t % 2 ^ 64) j ≡ bit_at word (j - t)
high_part word t j small from =
    cut (word * 2 ^ t) j small ∙ ap (λ n. bit_at n j) (omega arith) ∙ bit_at_cat_high word t 0 j (pow_pos t) from

max_left : (a b : ℕ) → b ≡ 0 → max a b ≡ a
max_left a b none = omega arith

max_right : (a b : ℕ) → a ≡ 0 → max a b ≡ b
max_right a b none = omega arith

-- the window begins with a word
pub window_of_one : (words : List ℕ) (bit word j : ℕ) → word ≡ get_or words (bit / 64) 0 → bit % 64 ≡ 0 → j < 64
    → (bit_at (word / 2 ^ (bit % 64)) j == 1) ≡ has_bit words (bit + j)
window_of_one words bit word j read begins small =
    ap (λ b. b == 1) (low_part word (bit % 64) j ∙ ap (bit_at word) (omega (arith, begins)) ∙ ap (λ w. bit_at w j) read)
    ∙ sym (has_bit-at words (bit + j) (bit / 64) j (omega (arith, begins)) (omega (arith, begins)))

-- it begins within a word, and ends in the next
pub window_of_two : (words : List ℕ) (bit word next j : ℕ) → word ≡ get_or words (bit / 64) 0 → next ≡ get_or words (bit / 64 + 1) 0 → word < 2 ^ 64 → 0 < bit % 64 → j < 64
    → (bit_at (bit_or (word / 2 ^ (bit % 64)) (next * 2 ^ (64 - bit % 64) % 2 ^ 64)) j == 1) ≡ has_bit words (bit + j)
window_of_two words bit word next j read read_next fits within small =
    let s : ℕ = bit % 64 in
    let t : ℕ = 64 - bit % 64 in
    ap (λ b. b == 1) (bit_at_or (word / 2 ^ s) (next * 2 ^ t % 2 ^ 64) j)
    ∙ elim (cases_lt (s + j) 64) [
      | inl low ↦
          ap (λ b. b == 1)
          (max_left (bit_at (word / 2 ^ s) j) (bit_at (next * 2 ^ t % 2 ^ 64) j) (high_part_none next t j small (omega arith))
          ∙ low_part word s j
          ∙ ap (λ w. bit_at w (s + j)) read)
          ∙ sym (has_bit-at words (bit + j) (bit / 64) (s + j) (omega (arith, low)) (omega (arith, low)))
      | inr high ↦
          ap (λ b. b == 1)
          (max_right (bit_at (word / 2 ^ s) j) (bit_at (next * 2 ^ t % 2 ^ 64) j) (low_part word s j ∙ bit_at_above word 64 (s + j) fits high)
          ∙ high_part next t j small (omega arith)
          ∙ ap (λ w. bit_at w (j - t)) read_next)
          ∙ sym (has_bit-at words (bit + j) (bit / 64 + 1) (j - t) (omega (arith, high)) (omega (arith, high)))
    ]

-- ---- one bit is changed

apart_in_word : (n bit : ℕ) → (n ≡ bit → ⊥) → n / 64 ≡ bit / 64 → n % 64 ≡ bit % 64 → ⊥
apart_in_word n bit other same_word same_place = other (omega arith)

elsewhere : (words : List ℕ) (bit word n : ℕ) → (n / 64 ≡ bit / 64 → ⊥) → has_bit (set words (bit / 64) word) n ≡ has_bit words n
unfolding has_bit
elsewhere words bit word n other = ap (λ w. bit_at w (n % 64) == 1) (get_or-set_other words (bit / 64) (n / 64) word 0 other)

here : (words : List ℕ) (bit word n : ℕ) → bit / 64 < length words → n / 64 ≡ bit / 64 → has_bit (set words (bit / 64) word) n ≡ (bit_at word (n % 64) == 1)
here words bit word n inside same =
    has_bit-at (set words (bit / 64) word) n (bit / 64) (n % 64) same refl ∙ ap (λ w. bit_at w (n % 64) == 1) (get_or-set_same words (bit / 64) word 0 inside)

pub has_bit-set : (words : List ℕ) (bit n : ℕ) → bit / 64 < length words
    → has_bit (set words (bit / 64) (bit_or (get_or words (bit / 64) 0) (1 * 2 ^ (bit % 64) % 2 ^ 64))) n ≡ ((n == bit) || has_bit words n)
has_bit-set words bit n inside =
    let old : ℕ = get_or words (bit / 64) 0 in
    let word : ℕ = bit_or old (1 * 2 ^ (bit % 64) % 2 ^ 64) in
    elim (cases_eq n bit) [
      | inl same ↦
          here words bit word n inside (ap (λ k. k / 64) same)
          ∙ ap (λ k. bit_at word (k % 64) == 1) same
          ∙ ap (λ b. b == 1) (bit_at_set_same w64 old (bit % 64) (omega arith))
          ∙ sym (or_left (n == bit) (has_bit words n) (eq-eqb n bit same))
      | inr other ↦
          elim (cases_eq (n / 64) (bit / 64)) [
            | inl same_word ↦
                here words bit word n inside same_word
                ∙ ap (λ b. b == 1) (bit_at_set_other w64 old (bit % 64) (omega arith) (n % 64) (apart_in_word n bit other same_word))
                ∙ sym (has_bit-at words n (bit / 64) (n % 64) same_word refl)
                ∙ sym (ap (λ t. t || has_bit words n) (ne_eqb n bit other))
            | inr other_word ↦
                elsewhere words bit word n other_word
                ∙ sym (ap (λ t. t || has_bit words n) (ne_eqb n bit other))
          ]
    ]

pub has_bit-cleared : (words : List ℕ) (bit n : ℕ) → bit / 64 < length words
    → has_bit (set words (bit / 64) (bit_and (get_or words (bit / 64) 0) (bit_not w64 (1 * 2 ^ (bit % 64) % 2 ^ 64)))) n ≡ (not (n == bit) && has_bit words n)
has_bit-cleared words bit n inside =
    let old : ℕ = get_or words (bit / 64) 0 in
    let word : ℕ = bit_and old (bit_not w64 (1 * 2 ^ (bit % 64) % 2 ^ 64)) in
    elim (cases_eq n bit) [
      | inl same ↦
          here words bit word n inside (ap (λ k. k / 64) same)
          ∙ ap (λ k. bit_at word (k % 64) == 1) same
          ∙ ap (λ b. b == 1) (bit_at_clear_same w64 old (bit % 64) (omega arith))
          ∙ sym (and_left (not (n == bit)) (has_bit words n) (ap not (eq-eqb n bit same)))
      | inr other ↦
          elim (cases_eq (n / 64) (bit / 64)) [
            | inl same_word ↦
                here words bit word n inside same_word
                ∙ ap (λ b. b == 1) (bit_at_clear_other w64 old (bit % 64) (omega arith) (n % 64) (omega arith) (apart_in_word n bit other same_word))
                ∙ sym (has_bit-at words n (bit / 64) (n % 64) same_word refl)
                ∙ sym (ap (λ t. not t && has_bit words n) (ne_eqb n bit other))
            | inr other_word ↦
                elsewhere words bit word n other_word
                ∙ sym (ap (λ t. not t && has_bit words n) (ne_eqb n bit other))
          ]
    ]

-- a bit that is set is one of a word
pub set_is_inside : (words : List ℕ) (bit : ℕ) → has_bit words bit ≡ true → bit / 64 < length words
unfolding has_bit
set_is_inside words bit is_set =
    elim (cases_lt (bit / 64) (length words)) [
      | inl inside ↦ inside
      | inr past ↦
          absurd (false≢true (sym (ap (λ b. b == 1) (ap (λ w. bit_at w (bit % 64)) (get_or_past words (bit / 64) 0 past) ∙ bit_at-zero (bit % 64))) ∙ is_set))
    ]
