-- Which selector and which classes of a query are live.
use Rattle.std.proofs.Common.{◌≡◌, ℕ, ◌+◌, ◌<◌, false, List, drop, refl}
use Rattle.std.specs.Prelude.{Option, None, Some}
use Rattle.std.proofs.lemmas.Bool.{false_from_ne_true}
use Rattle.dt_graph.specs.Graph.{Graph, is_live}
use Rattle.dt_graph.specs.declared.limits.TheConstants.{CLASSES}
use Rattle.dt_graph.specs.Lawful.{LawfulGraph}
use Rattle.dt_graph.proofs.LinkLists.{each_number}
use Rattle.dt_selectors.specs.Selectors.{Selector, arity_in}
use Rattle.dt_selectors.specs.Lawful.{LawfulSelectors}
use Rattle.dt_selectors.specs.declared.limits.TheConstants.{SELECTORS}
use Rattle.dt_selectors.proofs.Arities.{live_in_range}
use Rattle.dt_scratch.specs.Resolve.{first_dead}

-- a number out of range is no live class
pub not_live : (graph : Graph) (number : ℕ) → LawfulGraph graph → (number < CLASSES → ⊥) → is_live graph number ≡ false
not_live graph number lawful far = false_from_ne_true _
    (λ live. far (each_number (λ class. class < CLASSES) graph.classes lawful.classes_in_range number live))

-- a number out of range is no live selector
pub no_selector : (selectors : List Selector) (number : ℕ) → LawfulSelectors selectors → (number < SELECTORS → ⊥) →
    arity_in selectors number ≡ None
no_selector selectors number lawful far = none (arity_in selectors number) refl
  where
    none : (arity : Option ℕ) → arity_in selectors number ≡ arity → arity ≡ None
    none None is = refl
    none (Some arity) is = absurd (far (live_in_range selectors lawful number arity is).0)

-- the first position that isn't live, from a position on
abbrev pub dead_from : Graph → List ℕ → ℕ → Option ℕ
dead_from graph classes index = first_dead graph (1 + index) (drop index classes)
