-- Rows of class sets of which those in some places are changed, and what that makes of the two lists of an ancestry.
use Rattle.std.proofs.Common.{◌≡◌, ℕ, ◌+◌, ◌<◌, Bool, cond, not, ◌&&◌, ◌||◌, nat_lt, List, [], length, get_or, set, None, Some, sym, ap, ◌∙◌, arith, lt-ltb, inl, inr}
use Rattle.std.proofs.lemmas.Bool.{cases_eq, cond-true, cond-false, and_from, and_right, le-ltb}
use Rattle.std.proofs.lemmas.Bool.Decides.{nat_tests}
use Rattle.std.proofs.lemmas.List.{get_or_default, get_or-set_same, get_or-set_other, length-set}
use Rattle.dt_graph.specs.Graph.{has_number}
use Rattle.dt_graph.specs.Lawful.{AscendingNumbers}
use Rattle.dt_graph.specs.FirstFrom.{first_from}
use Rattle.dt_graph.specs.Ancestry.{row_has}
use Rattle.dt_graph.proofs.AscendingSets.{IsFirstFrom, first_some, first_none}

-- the rows in the places below the bound are changed as `change` says of each number's bit
pub record IsChangedTo (change : Bool → ℕ → Bool) (old new : List (List ℕ)) (places : List ℕ) (least : ℕ) : Type 0 where
  pub count : length new ≡ length old
  pub each : (k n : ℕ) → row_has new k n ≡ cond (has_number places k && nat_lt k least) (change (row_has old k n) n) (row_has old k n)

-- a place before the next one is done exactly where it was done already
done_already : (places : List ℕ) (least place k : ℕ) → IsFirstFrom places least place → (k ≡ place → ⊥)
    → (has_number places k && nat_lt k least) ≡ (has_number places k && nat_lt k (place + 1))
done_already places least place k first other =
    let more = first.more in let between = first.none_between k in grind (arith, nat_tests)

pub IsChangedTo-more : (change : Bool → ℕ → Bool) (old rows : List (List ℕ)) (places : List ℕ) (least place next : ℕ) (default changed : List ℕ)
    → AscendingNumbers places → first_from least places ≡ Some place → next ≡ place → place < length rows
    → ((n : ℕ) → has_number changed n ≡ change (has_number (get_or rows place default) n) n) → IsChangedTo change old rows places least
    → IsChangedTo change old (set rows place changed) places (next + 1)
IsChangedTo-more change old rows places least place next default changed ascending found same inside says so_far =
    let first = first_some places least place ascending found in record {
      count = length-set rows place changed ∙ so_far.count;
      each = λ k n. elim (cases_eq k place) [
        | inl here ↦
            let before : row_has rows k n ≡ row_has old k n =
            so_far.each k n
            ∙ cond-false (has_number places k && nat_lt k least) (change (row_has old k n) n) (row_has old k n)
            (and_right (has_number places k) (nat_lt k least) (le-ltb k least (let more = first.more in omega arith))) in
            ap (λ j. has_number (get_or (set rows place changed) j []) n) here
            ∙ ap (λ r. has_number r n) (get_or-set_same rows place changed [] inside)
            ∙ says n
            ∙ ap (λ r. change (has_number r n) n) (get_or_default rows place default [] inside ∙ ap (λ j. get_or rows j []) (sym here))
            ∙ ap (λ b. change b n) before
            ∙ sym (cond-true (has_number places k && nat_lt k (next + 1)) (change (row_has old k n) n) (row_has old k n)
            (and_from (has_number places k) (nat_lt k (next + 1)) (ap (has_number places) here ∙ first.listed) (lt-ltb k (next + 1) (omega arith))))
        | inr other ↦
            ap (λ r. has_number r n) (get_or-set_other rows place k changed [] other)
            ∙ so_far.each k n
            ∙ ap (λ t. cond t (change (row_has old k n) n) (row_has old k n))
            (done_already places least place k first other ∙ ap (λ j. has_number places k && nat_lt k (j + 1)) (sym same))
      ];
    }

pub IsChangedTo-all : (change : Bool → ℕ → Bool) (old new : List (List ℕ)) (places : List ℕ) (least : ℕ) → first_from least places ≡ None → IsChangedTo change old new places least
    → (k n : ℕ) → row_has new k n ≡ cond (has_number places k) (change (row_has old k n) n) (row_has old k n)
IsChangedTo-all change old new places least none so_far k n =
    let each = so_far.each k n in let unlisted = first_none places least none k in grind (arith, nat_tests)

-- ---- what may change

abbrev pub with_all : List ℕ → Bool → ℕ → Bool
with_all classes bit n = bit || has_number classes n

abbrev pub without_all : List ℕ → Bool → ℕ → Bool
without_all classes bit n = bit && not (has_number classes n)

pub with_all_said : (place bit new : Bool) → cond place (bit || new) bit ≡ (bit || (place && new))
with_all_said place bit new = grind arith

pub without_one_said : (place bit gone : Bool) → cond place (bit && not gone) bit ≡ (bit && not (place && gone))
without_one_said place bit gone = grind arith
