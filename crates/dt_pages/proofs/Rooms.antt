-- Nodes that are moved from the rooms of a plan into a tree.
use Rattle.std.proofs.Common.{◌≡◌, ℕ, ◌+◌, ◌*◌, ◌/◌, ◌%◌, ◌<◌, Option, Some, None, get_or, set, length, sym, ap, ap₂, ◌∙◌, arith}
use native.Mathlib.Decide.{ℕ_discrete}
use Rattle.std.proofs.lemmas.Grind.{get_or-set_at}
use Rattle.std.proofs.lemmas.List.{get_or-set_other}
use Rattle.dt_pages.specs.TreeForm.{MiddleForm, TreeForm, word_of_middle, word_of_tree, has_either, has_either_leaf}

-- a middle node of a tree without words has none
pub zero_middle : (rooms : TreeForm) (p : ℕ) (room : MiddleForm) → get_or rooms p None ≡ Some room → ((q : ℕ) → word_of_tree rooms q ≡ 0)
    → (q : ℕ) → q < 262144 → word_of_middle (Some room) q ≡ 0
zero_middle rooms p room is zeros q low =
    let place : (262144 * p + q) / 262144 ≡ p = omega (arith, low) in
    let at : (262144 * p + q) % 262144 ≡ q = omega (arith, low) in
    sym (ap₂ (λ (k r : ℕ). word_of_middle (get_or rooms k None) r) place at ∙ ap (λ (m : Option MiddleForm). word_of_middle m q) is) ∙ zeros (262144 * p + q)

-- where two middle nodes keep their leaves between them, so do the trees
pub either_set : (middles rooms : TreeForm) (p : ℕ) (middle room m r : MiddleForm) → p < length middles → p < length rooms
    → get_or middles p None ≡ Some middle → get_or rooms p None ≡ Some room
    → ((q : ℕ) → has_either_leaf (Some m) (Some r) q ≡ has_either_leaf (Some middle) (Some room) q)
    → (q : ℕ) → has_either (set middles p (Some m)) (set rooms p (Some r)) q ≡ has_either middles rooms q
either_set middles rooms p middle room m r low rooms_low is rooms_is same q = elim (ℕ_discrete (q / 262144) p) [
  | yes here ↦
      ap₂ (λ (a b : Option MiddleForm). has_either_leaf a b (q % 262144)) (get_or-set_at middles p (q / 262144) (Some m) None here low) (get_or-set_at rooms p (q / 262144) (Some r) None here rooms_low)
      ∙ same (q % 262144)
      ∙ sym (ap₂ (λ (a b : Option MiddleForm). has_either_leaf a b (q % 262144)) (ap (λ (k : ℕ). get_or middles k None) here ∙ is) (ap (λ (k : ℕ). get_or rooms k None) here ∙ rooms_is))
  | no other ↦ ap₂ (λ (a b : Option MiddleForm). has_either_leaf a b (q % 262144)) (get_or-set_other middles p (q / 262144) (Some m) None other) (get_or-set_other rooms p (q / 262144) (Some r) None other)
]
