-- What is told of all selectors in turn, where nothing is told of those that are passed over.
use Rattle.std.proofs.Common.{◌≡◌, ℕ, zero, suc, ◌+◌, ◌-◌, ◌<◌, ◌≤◌, List, [], ◌++◌, None, Some, false, refl, sym, ap, ◌∙◌, arith, append-nil}
use Rattle.std.specs.List.{range_with_len}
use Rattle.dt_graph.specs.Graph.{has_number}
use Rattle.dt_graph.specs.FirstFrom.{first_from}
use Rattle.dt_graph.specs.Lawful.{AscendingNumbers}
use Rattle.dt_graph.proofs.AscendingSets.{first_some, first_none}
use Rattle.dt_graph.proofs.ClassBits.{range-split}
use Rattle.dt_propagate.specs.Boxes.{in_turn}
use Rattle.dt_propagate.proofs.Touching.{turned}
use Rattle.dt_propagate.proofs.WalkedSets.{turns_append}

module _ {T : Type 0} (f : ℕ → List T) where
  none_turned : (a n : ℕ) → ((k : ℕ) → a ≤ k → k < a + n → f k ≡ []) → in_turn f (range_with_len a n) ≡ []
  none_turned a zero none = refl
  none_turned a (suc n) none =
      rw (none a (omega arith) (omega arith)) (none_turned (a + 1) n (λ k low high. none k (omega (arith, low)) (omega (arith, high))))

  -- a run of numbers of which nothing is told may be passed over
  passed : (least next : ℕ) → least ≤ next → ((k : ℕ) → least ≤ k → k < next → f k ≡ []) →
      in_turn f (range_with_len 0 next) ≡ in_turn f (range_with_len 0 least)
  passed least next more none =
      let n : ℕ = next - least in
      let whole : next ≡ least + n = omega (arith, more) in
      ap (in_turn f) (range-split 0 least n next whole)
      ∙ turns_append f (range_with_len 0 least) (range_with_len (0 + least) n)
      ∙ ap (λ xs. in_turn f (range_with_len 0 least) ++ xs)
      (none_turned (0 + least) n (λ k low high. none k (omega (arith, low)) (omega (arith, high, whole))))
      ∙ append-nil (in_turn f (range_with_len 0 least))

  module _ (touched : List ℕ) (ascend : AscendingNumbers touched) (others : (k : ℕ) → has_number touched k ≡ false → f k ≡ []) where
    -- the next number of the set is gone on with
    pub next_told : (least at number next : ℕ) (start before after : List T) → first_from least touched ≡ Some at → number ≡ at → next ≡ number + 1 →
        before ≡ start ++ in_turn f (range_with_len 0 least) → after ≡ before ++ f at →
        after ≡ start ++ in_turn f (range_with_len 0 next)
    next_told least at number next start before after found same e b h =
        let first = first_some touched least at ascend found in
        turned f 0 at next at start before after (omega (arith, same, e)) (omega arith)
        (b ∙ ap (λ xs. start ++ xs) (sym (passed least at first.more (λ k low high. others k (first.none_between k low high))))) h

    -- no further one is in the set
    pub rest_told : (least limit : ℕ) (start before : List T) → first_from least touched ≡ None → least ≤ limit →
        before ≡ start ++ in_turn f (range_with_len 0 least) → before ≡ start ++ in_turn f (range_with_len 0 limit)
    rest_told least limit start before none low b =
        b ∙ ap (λ xs. start ++ xs) (sym (passed least limit low (λ k more less. others k (first_none touched least none k more))))
