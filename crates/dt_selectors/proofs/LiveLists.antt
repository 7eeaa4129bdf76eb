-- The numbers of the live selectors as those of all numbers that pass a test.
use Rattle.std.proofs.Common.{◌≡◌, ℕ, ◌<◌, IsTrue, List, [], ◌∷◌, map, filter, Option, None, Some, is_some, refl, sym, ap, ◌∙◌, arith}
use Rattle.std.proofs.lemmas.Bool.{false≢true}
use Rattle.std.proofs.lemmas.Bool.Decides.{nat_tests}
use Rattle.std.specs.List.{range_with_len}
use Rattle.dt_graph.specs.Graph.{has_number}
use Rattle.dt_graph.specs.Lawful.{AscendingNumbers}
use Rattle.dt_graph.proofs.LiveLists.{all_passing}
use Rattle.dt_selectors.specs.Selectors.{Selector, arity_in, has_selector}
use Rattle.dt_selectors.specs.Lawful.{LawfulSelectors, AscendingSelectors}
use Rattle.dt_selectors.specs.declared.limits.TheConstants.{SELECTORS}
use Rattle.dt_selectors.proofs.Arities.{live_in_range}

abbrev numbers_of : List Selector → List ℕ
numbers_of selectors = map (λ (s : Selector). s.number) selectors

numbered : (selectors : List Selector) (n : ℕ) → has_number (numbers_of selectors) n ≡ has_selector selectors n
numbered [] n = refl
numbered (s ∷ selectors) n = let h = numbered selectors n in grind (arith, nat_tests)

numbers_ascend : (selectors : List Selector) → AscendingSelectors selectors → AscendingNumbers (numbers_of selectors)
numbers_ascend [] ascend = tt
numbers_ascend (a ∷ []) ascend = tt
numbers_ascend (a ∷ b ∷ selectors) ascend = (ascend.0, numbers_ascend (b ∷ selectors) ascend.1)

in_range : (selectors : List Selector) → LawfulSelectors selectors → (n : ℕ) → IsTrue (has_selector selectors n) → n < SELECTORS
in_range selectors lawful n live = go (arity_in selectors n) refl
  where
    go : (arity : Option ℕ) → arity_in selectors n ≡ arity → n < SELECTORS
    go None is = absurd (false≢true (sym (ap is_some is) ∙ live))
    go (Some arity) is = (live_in_range selectors lawful n arity is).0

-- the live selectors are the numbers of all selectors that are live
pub all_live : (selectors : List Selector) → LawfulSelectors selectors → filter (has_selector selectors) (range_with_len 0 SELECTORS) ≡ numbers_of selectors
all_live selectors lawful =
    all_passing (has_selector selectors) (numbers_of selectors) SELECTORS (numbers_ascend selectors lawful.ascend) (numbered selectors) (in_range selectors lawful)
