-- How many classes and selectors a generated script may have.
use Rattle.std.specs.Prelude.{ℕ, ◌≤◌}
use Rattle.dt_graph.specs.declared.limits.TheConstants.{CLASSES}
use Rattle.dt_selectors.specs.declared.limits.TheConstants.{SELECTORS}

-- from 2 classes and from 1 selector to as many as there are numbers
pub record IsSize (classes selectors : ℕ) : Type 0 where
  pub two_classes : 2 ≤ classes
  pub classes_in_range : classes ≤ CLASSES
  pub one_selector : 1 ≤ selectors
  pub selectors_in_range : selectors ≤ SELECTORS
