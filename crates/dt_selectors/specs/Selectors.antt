-- The live selectors, each with how many arguments it takes.
use Rattle.std.specs.Prelude.{◌==◌, ℕ, Bool, not, nat_lt, List, Option, is_some, find, filter}
use Rattle.std.specs.Option.{option_map}
use Rattle.dt_graph.specs.InOrder.{insert_by_key}
use Rattle.dt_graph.specs.Refusal.{cause_if}
use Rattle.dt_selectors.specs.declared.selectors.SelectorFault.{SelectorFault}
use Rattle.dt_selectors.specs.declared.selectors.SelectorFault.TheVariants.{SelectorExists, SelectorUnknown}

-- a live selector, and how many arguments it takes
pub record Selector : Type 0 where
  pub number : ℕ
  pub arity : ℕ

-- the arity of the selector, if it is live
abbrev pub arity_in : List Selector → ℕ → Option ℕ
arity_in selectors selector = option_map (λ s. s.arity) (find (λ s. s.number == selector) selectors)

-- whether the selector is live
abbrev pub has_selector : List Selector → ℕ → Bool
has_selector selectors selector = is_some (arity_in selectors selector)

-- the selectors with one more, in ascending order; a selector that is there already is replaced
abbrev pub insert_selector : Selector → List Selector → List Selector
insert_selector selector selectors = insert_by_key (λ s. s.number) nat_lt (λ a b. b == a) selector selectors

-- the selectors without this one
abbrev pub without_selector : List Selector → ℕ → List Selector
without_selector selectors selector = filter (λ s. not (s.number == selector)) selectors

-- why a selector isn't added, and why it isn't dropped
abbrev pub add_cause : List Selector → ℕ → Option SelectorFault
add_cause selectors selector = cause_if (has_selector selectors selector) SelectorExists

abbrev pub drop_cause : List Selector → ℕ → Option SelectorFault
drop_cause selectors selector = cause_if (not (has_selector selectors selector)) SelectorUnknown
