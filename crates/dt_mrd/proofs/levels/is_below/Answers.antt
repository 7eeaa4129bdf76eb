use Rattle.std.proofs.Common.{inl, inr, ◌∙◌}
use Rattle.dt_mrd.proofs.LevelLoops.{below_end}
use Rattle.dt_mrd.proofs.levels.is_below.Goals as goal
use Rattle.dt_mrd.proofs.levels.is_below.Goals.{then-loop-at-test+else-at-others, else-loop-at-test}

pub returns : goal.returns
returns c = below_end c.args.classes.now c.args.others.now c.loop-at.at c.loop-at.invariant.within c.loop-at.invariant.within_others
    (elim c.loop-at-test.branch [ then-loop-at-test+else-at-others w ↦ inr w.if-at-others.false | else-loop-at-test w ↦ inl w.loop-at-test.false ])
    ∙ c.loop-at.invariant.rest
