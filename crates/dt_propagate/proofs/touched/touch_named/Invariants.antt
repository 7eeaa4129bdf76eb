use Rattle.std.proofs.Common.{◌≡◌, ℕ, ◌-◌, ◌≤◌, ◌||◌}
use Rattle.std.specs.List.{list_any}
use Rattle.dt_graph.specs.Graph.{has_number}
use Rattle.dt_graph.specs.declared.limits.TheConstants.{CLASSES}
use Rattle.dt_definitions.specs.Naming.{naming}
use Rattle.dt_propagate.specs.Touched.{is_of_any}
use Rattle.dt_propagate.proofs.WalkedSets.{gone_by}
use Rattle.dt_propagate.proofs.touched.touch_named.Given as goal

abbrev pub decreases-loop-class : goal.decreases-loop-class
decreases-loop-class l = CLASSES - l.least

abbrev pub invariant-loop-class : goal.invariant-loop-class
invariant-loop-class l = record {
  low : l.least ≤ CLASSES;
  gone : (n : ℕ) → has_number l.touched n ≡ (has_number l.fn.touched n || list_any (λ class. is_of_any (naming l.fn.old.definitions class) n || is_of_any (naming l.fn.new.definitions class) n) (gone_by l.least l.fn.classes));
}
