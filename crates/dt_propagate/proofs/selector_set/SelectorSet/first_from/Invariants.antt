use Rattle.std.proofs.Common.{◌-◌}
use Rattle.dt_graph.proofs.FirstClass.{IsLookedAt}
use Rattle.dt_propagate.proofs.selector_set.SelectorSet.first_from.Given as goal

abbrev pub invariant-loop-word : goal.invariant-loop-word
invariant-loop-word l = IsLookedAt l.words l.least l.place l.word

abbrev pub decreases-loop-word : goal.decreases-loop-word
decreases-loop-word l = 64 - l.place
