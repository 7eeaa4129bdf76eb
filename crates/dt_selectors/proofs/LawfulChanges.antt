-- Lawful selectors stay lawful when one is placed among them or taken away.
use Rattle.std.proofs.Common.{ℕ, ◌≤◌, Bool, not, nat_lt, List, [], filter, eqb, sym, arith, All, count_by}
use Rattle.std.proofs.lemmas.Bool.{eqb-true}
use Rattle.std.proofs.lemmas.Bool.Decides.{nat_tests}
use Rattle.std.proofs.lemmas.List.Elements.{All-nil, All-filter}
use Rattle.dt_graph.specs.InOrder.{StrictOrder}
use Rattle.dt_graph.proofs.Ascending.{number_order}
use Rattle.dt_graph.proofs.InOrder.{Ascends-insert, Ascends-filter, All-insert, stands_once}
use Rattle.dt_selectors.specs.Selectors.{Selector, insert_selector, without_selector}
use Rattle.dt_selectors.specs.Lawful.{AscendingSelectors, LawfulSelector, LawfulSelectors}

-- selectors are in strict order of their numbers
pub selector_order : StrictOrder nat_lt (λ a b. eqb b a)
selector_order = record {
  transitive = number_order.transitive;
  irreflexive = number_order.irreflexive;
  total = λ a b less other. grind (arith, nat_tests);
  equal = λ a b same. sym (eqb-true b a same);
  reflexive = number_order.reflexive;
}

pub insert-ascends : (s : Selector) (ss : List Selector) → AscendingSelectors ss → AscendingSelectors (insert_selector s ss)
insert-ascends s ss h = Ascends-insert (λ s. s.number) nat_lt (λ a b. eqb b a) selector_order s ss h

pub filter-ascends : (p : Selector → Bool) (ss : List Selector) → AscendingSelectors ss → AscendingSelectors (filter p ss)
filter-ascends p ss h = Ascends-filter (λ s. s.number) nat_lt (λ a b. eqb b a) selector_order p ss h

pub insert-all : (P : Selector → Type 0) (s : Selector) (ss : List Selector) → P s → All P ss → All P (insert_selector s ss)
insert-all P s ss p h = All-insert (λ s. s.number) nat_lt (λ a b. eqb b a) selector_order P s ss p h

pub empty_lawful : LawfulSelectors []
empty_lawful = record { ascend = tt; in_range = All-nil LawfulSelector }

pub add_keeps : (ss : List Selector) (s : Selector) → LawfulSelectors ss → LawfulSelector s → LawfulSelectors (insert_selector s ss)
add_keeps ss s l h = record { ascend = insert-ascends s ss l.ascend; in_range = insert-all LawfulSelector s ss h l.in_range }

pub drop_keeps : (ss : List Selector) (selector : ℕ) → LawfulSelectors ss → LawfulSelectors (without_selector ss selector)
drop_keeps ss selector l = record {
  ascend = filter-ascends (λ s. not (eqb s.number selector)) ss l.ascend;
  in_range = All-filter (λ s. not (eqb s.number selector)) LawfulSelector ss l.in_range;
}

-- no selector stands twice
pub listed_once : (selector : ℕ) (ss : List Selector) → AscendingSelectors ss → count_by (λ s. eqb s.number selector) ss ≤ 1
listed_once selector ss h = stands_once (λ s. s.number) nat_lt (λ a b. eqb b a) selector_order selector ss h
