use Rattle.std.proofs.Common.{◌≡◌, ◌≤◌, ◌-◌, take, length, ◌∷◌, [], ◌++◌}
use Rattle.std.specs.List.{sum_by}
use Rattle.dt_propagate.specs.Begun.{told_begun}
use Rattle.dt_propagate.specs.GoneThrough.{told_after}
use Rattle.dt_propagate.proofs.count.+count_after.Given as goal

abbrev pub decreases-count_after : goal.decreases-count_after
decreases-count_after l = l.more

abbrev pub invariant-loop-class : goal.invariant-loop-class
invariant-loop-class l = record {
  prefix : l.prefix.items ≡ l.fn.prefix.items;
  few : l.count ≤ l.fn.most;
  count : l.count ≡ sum_by (λ c. length (told_after (told_begun l.fn.program) l.fn.selector (l.fn.more - 1) (l.fn.prefix.items ++ c ∷ []))) (take l.class-index l.class-items);
}
