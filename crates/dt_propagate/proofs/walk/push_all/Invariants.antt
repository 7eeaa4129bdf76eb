use Rattle.std.proofs.Common.{◌≡◌, ◌≤◌, ◌-◌, ◌++◌}
use Rattle.std.specs.List.{range_with_len}
use Rattle.dt_selectors.specs.declared.limits.TheConstants.{SELECTORS}
use Rattle.dt_propagate.specs.Boxes.{in_turn}
use Rattle.dt_propagate.specs.Counted.{CountsOn}
use Rattle.dt_propagate.specs.GoneThrough.{all_arities, told_of}
use Rattle.dt_propagate.specs.Walk.{told_change}
use Rattle.dt_propagate.proofs.walk.push_all.Given as goal

abbrev pub decreases-loop-selector : goal.decreases-loop-selector
decreases-loop-selector g l = SELECTORS - l.least

abbrev pub invariant-loop-selector : goal.invariant-loop-selector
invariant-loop-selector g l = record {
  low : l.least ≤ SELECTORS;
  told : l.out.changes.items ≡ l.fn.out.changes.items ++ in_turn (told_of (told_change l.fn.old l.fn.new) all_arities) (range_with_len 0 l.least);
  counted : CountsOn l.fn.steps l.steps l.fn.out.counted l.out.counted;
}
