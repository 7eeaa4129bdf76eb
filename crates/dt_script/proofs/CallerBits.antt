-- One bit of the words of a set of callers.
use Rattle.std.proofs.Common.{◌≡◌, ◌==◌, ℕ, ◌/◌, ◌%◌, ◌*◌, ◌^◌, ◌<◌, Bool, true, false, List, length, get_or, set, replicate, sym, ap, ◌∙◌, arith, eq-eqb, ne_eqb, inl, inr, w64}
use Rattle.std.proofs.lemmas.Bool.{cases_eq, cases_lt}
use Rattle.std.proofs.lemmas.List.{get_or_past, get_or-replicate, get_or-set_same, get_or-set_other, length-replicate}
use Rattle.std.proofs.lemmas.Nat.Bits.{bit_at-zero, bit_at_set_same, bit_at_set_other, bit_at_clear_same, bit_at_clear_other, shr_and_one}
use Rattle.std.specs.Prelude.{bit_and, bit_or, if◌then◌else◌}
use Rattle.std.specs.Int.{bit_at, bit_not}
use Rattle.dt_graph.specs.ClassSet.{has_bit}

-- what the shift and the mask test
pub bit_read : (words : List ℕ) (c : ℕ) → (bit_and (get_or words (c / 64) 0 / 2 ^ (c % 64)) 1 == 1) ≡ has_bit words c
unfolding has_bit
bit_read words c = ap (λ b. b == 1) (shr_and_one (get_or words (c / 64) 0) (c % 64))

-- words of zero have no bit
pub no_bit : (n k : ℕ) → has_bit (replicate n 0) k ≡ false
unfolding has_bit
no_bit n k = elim (cases_lt (k / 64) n) [
  | inl inside ↦ ap (λ w. bit_at w (k % 64) == 1) (get_or-replicate n (k / 64) 0 0 inside) ∙ ap (λ b. b == 1) (bit_at-zero (k % 64))
  | inr past ↦
      ap (λ w. bit_at w (k % 64) == 1) (get_or_past (replicate n 0) (k / 64) 0 (omega (arith, length-replicate {A = ℕ} n 0))) ∙ ap (λ b. b == 1) (bit_at-zero (k % 64))
]

-- a word put in the place of the number's word, with this bit at the number, and every other as it was
pub bit_changed : (words : List ℕ) (word c n : ℕ) (bit : Bool) → c / 64 < length words
    → (bit_at word (c % 64) == 1) ≡ bit
    → ((i : ℕ) → i < 64 → (i ≡ c % 64 → ⊥) → bit_at word i ≡ bit_at (get_or words (c / 64) 0) i)
    → has_bit (set words (c / 64) word) n ≡ (if c == n then bit else has_bit words n)
unfolding has_bit
bit_changed words word c n bit inside here others = elim (cases_eq c n) [
  | inl same ↦
      ap (λ k. bit_at (get_or (set words (c / 64) word) (k / 64) 0) (k % 64) == 1) (sym same)
      ∙ ap (λ w. bit_at w (c % 64) == 1) (get_or-set_same words (c / 64) word 0 inside)
      ∙ here
      ∙ sym (ap (λ t. if t then bit else has_bit words n) (eq-eqb c n same))
  | inr other ↦
      elim (cases_eq (n / 64) (c / 64)) [
        | inl near ↦
            ap (λ k. bit_at (get_or (set words (c / 64) word) k 0) (n % 64) == 1) near
            ∙ ap (λ w. bit_at w (n % 64) == 1) (get_or-set_same words (c / 64) word 0 inside)
            ∙ ap (λ b. b == 1) (others (n % 64) (omega arith) (λ place. other (omega arith)))
            ∙ sym (ap (λ k. bit_at (get_or words k 0) (n % 64) == 1) near)
            ∙ sym (ap (λ t. if t then bit else has_bit words n) (ne_eqb c n other))
        | inr far ↦
            ap (λ w. bit_at w (n % 64) == 1) (get_or-set_other words (c / 64) (n / 64) word 0 far)
            ∙ sym (ap (λ t. if t then bit else has_bit words n) (ne_eqb c n other))
      ]
]

pub bit_set : (words : List ℕ) (c n : ℕ) → c / 64 < length words
    → has_bit (set words (c / 64) (bit_or (get_or words (c / 64) 0) (1 * 2 ^ (c % 64) % 2 ^ 64))) n
    ≡ (if c == n then true else has_bit words n)
bit_set words c n inside =
    let word : ℕ = get_or words (c / 64) 0 in
    bit_changed words (bit_or word (1 * 2 ^ (c % 64) % 2 ^ 64)) c n true inside
    (ap (λ b. b == 1) (bit_at_set_same w64 word (c % 64) (omega arith)))
    (λ i low other. bit_at_set_other w64 word (c % 64) (omega arith) i other)

pub bit_cleared : (words : List ℕ) (c n : ℕ) → c / 64 < length words
    → has_bit (set words (c / 64) (bit_and (get_or words (c / 64) 0) (bit_not w64 (1 * 2 ^ (c % 64) % 2 ^ 64)))) n
    ≡ (if c == n then false else has_bit words n)
bit_cleared words c n inside =
    let word : ℕ = get_or words (c / 64) 0 in
    bit_changed words (bit_and word (bit_not w64 (1 * 2 ^ (c % 64) % 2 ^ 64))) c n false inside
    (ap (λ b. b == 1) (bit_at_clear_same w64 word (c % 64) (omega arith)))
    (λ i low other. bit_at_clear_other w64 word (c % 64) (omega arith) i low other)
