use Rattle.std.proofs.Common.{◌≡◌, ℕ, ◌-◌, ◌≤◌, ◌||◌}
use Rattle.std.specs.List.{list_any}
use Rattle.dt_graph.specs.Graph.{has_number}
use Rattle.dt_graph.specs.Below.{is_below}
use Rattle.dt_graph.specs.declared.limits.TheConstants.{CLASSES}
use Rattle.dt_propagate.proofs.WalkedSets.{gone_by}
use Rattle.dt_propagate.proofs.marks.marked.Given as goal

abbrev pub decreases-loop-class : goal.decreases-loop-class
decreases-loop-class l = CLASSES - l.least

abbrev pub invariant-loop-class : goal.invariant-loop-class
invariant-loop-class l = record {
  low : l.least ≤ CLASSES;
  gone : (n : ℕ) → has_number l.marked n ≡ (has_number l.fn.changed n || list_any (λ class. is_below l.fn.old.links n class) (gone_by l.least l.fn.highs));
}
