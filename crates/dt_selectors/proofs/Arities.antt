-- The arity of a selector after one is placed among the selectors or taken away, and where it is live.
use Rattle.std.proofs.Common.{◌≡◌, ◌==◌, ℕ, ◌<◌, ◌≤◌, cond, List, [], ◌∷◌, None, Some, arith}
use Rattle.std.specs.List.{AllByRecursion}
use Rattle.std.proofs.lemmas.Bool.Decides.{nat_tests}
use Rattle.std.proofs.lemmas.List.Elements.{recursion_from_All}
use Rattle.dt_selectors.specs.Selectors.{Selector, arity_in, insert_selector, without_selector}
use Rattle.dt_selectors.specs.Lawful.{LawfulSelector, LawfulSelectors}
use Rattle.dt_selectors.specs.Laws.{AddingSetsOneArity, DroppingUnsetsOneArity}
use Rattle.dt_selectors.specs.declared.limits.TheConstants.{SELECTORS}

placed : (new : Selector) (number : ℕ) (ts : List Selector) →
    arity_in (insert_selector new ts) number ≡ cond (new.number == number) (Some new.arity) (arity_in ts number)
placed new number [] = grind (arith, nat_tests)
placed new number (t ∷ ts) = let h = placed new number ts in grind (arith, nat_tests)

pub adding : AddingSetsOneArity
adding selectors added selector = placed added selector selectors

taken : (old number : ℕ) (ts : List Selector) →
    arity_in (without_selector ts old) number ≡ cond (old == number) None (arity_in ts number)
taken old number [] = grind (arith, nat_tests)
taken old number (t ∷ ts) = let h = taken old number ts in grind (arith, nat_tests)

pub dropping : DroppingUnsetsOneArity
dropping selectors dropped selector = taken dropped selector selectors

-- a live selector is in range, and so is its arity
pub live_in_range : (selectors : List Selector) → LawfulSelectors selectors → (selector arity : ℕ)
    → arity_in selectors selector ≡ Some arity → (selector < SELECTORS) × (0 < arity) × (arity ≤ 4)
live_in_range selectors lawful = within selectors (recursion_from_All LawfulSelector selectors lawful.in_range)
  where
    within : (ts : List Selector) → AllByRecursion LawfulSelector ts → (selector arity : ℕ)
        → arity_in ts selector ≡ Some arity → (selector < SELECTORS) × (0 < arity) × (arity ≤ 4)
    within [] all selector arity is = absurd (cc)
    within (t ∷ ts) all selector arity is =
        let own = all.0 in
        let others = within ts all.1 selector arity in grind (arith, nat_tests)
