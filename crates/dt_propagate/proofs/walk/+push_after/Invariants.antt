use Rattle.std.proofs.Common.{◌≡◌, ◌-◌, ◌≤◌, ◌∷◌, [], ◌++◌}
use Rattle.dt_graph.specs.declared.limits.TheConstants.{CLASSES}
use Rattle.dt_propagate.specs.Boxes.{in_turn}
use Rattle.dt_propagate.specs.Counted.{CountsOn}
use Rattle.dt_propagate.specs.GoneThrough.{told_after}
use Rattle.dt_propagate.specs.Walk.{told_change}
use Rattle.dt_propagate.proofs.WalkedSets.{gone_by}
use Rattle.dt_propagate.proofs.walk.+push_after.Given as goal

abbrev pub decreases-push_after : goal.decreases-push_after
decreases-push_after g l = l.more

abbrev pub decreases-loop-class : goal.decreases-loop-class
decreases-loop-class g l = CLASSES - l.least

abbrev pub invariant-loop-class : goal.invariant-loop-class
invariant-loop-class g l = record {
  low : l.least ≤ CLASSES;
  prefix : l.prefix.items ≡ l.fn.prefix.items;
  told : l.out.changes.items ≡ l.fn.out.changes.items
      ++ in_turn (λ c. told_after (told_change l.fn.old l.fn.new) l.fn.selector (l.fn.more - 1) (l.fn.prefix.items ++ c ∷ [])) (gone_by l.least l.next);
  counted : CountsOn l.fn.steps l.steps l.fn.out.counted l.out.counted;
}
