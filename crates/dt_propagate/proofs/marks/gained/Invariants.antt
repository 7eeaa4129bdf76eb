use Rattle.std.proofs.Common.{◌≡◌, ℕ, ◌-◌, ◌≤◌, ◌||◌, false}
use Rattle.std.specs.List.{list_any}
use Rattle.dt_graph.specs.Graph.{has_number}
use Rattle.dt_graph.specs.declared.limits.TheConstants.{CLASSES}
use Rattle.dt_propagate.specs.Bounds.{is_gained}
use Rattle.dt_propagate.proofs.WalkedSets.{gone_by}
use Rattle.dt_propagate.proofs.marks.gained.Given as goal

abbrev pub decreases-loop-class : goal.decreases-loop-class
decreases-loop-class l = CLASSES - l.least

abbrev pub invariant-loop-class : goal.invariant-loop-class
invariant-loop-class l = record {
  low : l.least ≤ CLASSES;
  gone : (n : ℕ) → has_number l.gained n ≡ (false || list_any (λ class. is_gained l.fn.old.links l.fn.new.links class n) (gone_by l.least l.fn.lows));
}
