-- A selector as it was before it came or went.
use Rattle.std.proofs.Common.{◌≡◌, eqb, nat_lt, Option, None, Some, find, option_map, refl, sym, subst}
use Rattle.dt_graph.proofs.InOrder.{found_key, remove_inserted, put_back_removed}
use Rattle.dt_selectors.specs.Selectors.{Selector, insert_selector, without_selector}
use Rattle.dt_selectors.specs.Laws.{AddingIsUndone, DroppingIsUndone}
use Rattle.dt_selectors.proofs.LawfulChanges.{selector_order}

pub adding_undone : AddingIsUndone
adding_undone selectors added = go (find (λ s. eqb s.number added.number) selectors) refl
  where
    go : (found : Option Selector) → find (λ s. eqb s.number added.number) selectors ≡ found → option_map (λ (s : Selector). s.arity) found ≡ None
        → without_selector (insert_selector added selectors) added.number ≡ selectors
    go None is none = remove_inserted (λ (s : Selector). s.number) nat_lt (λ a b. eqb b a) selector_order added selectors is
    go (Some s) is none = absurd cc

pub dropping_undone : DroppingIsUndone
dropping_undone selectors dropped ascend = go (find (λ s. eqb s.number dropped.number) selectors) refl
  where
    go : (found : Option Selector) → find (λ s. eqb s.number dropped.number) selectors ≡ found → option_map (λ (s : Selector). s.arity) found ≡ Some dropped.arity
        → insert_selector dropped (without_selector selectors dropped.number) ≡ selectors
    go None is same = absurd cc
    go (Some s) is same =
        let number = found_key (λ (s : Selector). s.number) nat_lt (λ a b. eqb b a) selector_order dropped.number selectors s is in
        let arity : s.arity ≡ dropped.arity = cc in
        let one : s ≡ dropped = rw (sym number, sym arity) refl in
        subst (λ t. insert_selector t (without_selector selectors dropped.number) ≡ selectors) one
        (put_back_removed (λ (s : Selector). s.number) nat_lt (λ a b. eqb b a) selector_order dropped.number s selectors ascend is)
