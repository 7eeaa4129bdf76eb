use Rattle.std.proofs.Common.{◌≡◌, ℕ, ◌-◌, ◌≤◌, ◌||◌, false}
use Rattle.std.specs.List.{list_any}
use Rattle.dt_graph.specs.Graph.{has_number}
use Rattle.dt_graph.specs.declared.limits.TheConstants.{CLASSES}
use Rattle.dt_propagate.specs.Marks.{is_moved}
use Rattle.dt_propagate.proofs.WalkedSets.{gone_by}
use Rattle.dt_propagate.proofs.marks.changed.Given as goal

abbrev pub decreases-loop-high : goal.decreases-loop-high
decreases-loop-high l = CLASSES - l.least

abbrev pub invariant-loop-high : goal.invariant-loop-high
invariant-loop-high l = record {
  low : l.least ≤ CLASSES;
  gone : (n : ℕ) → has_number l.changed n ≡ (false || list_any (λ high. is_moved l.fn.old.links l.fn.new.links n high) (gone_by l.least l.fn.highs));
}
