use Rattle.dt_run.proofs.Tallying.{folded_more}
use Rattle.dt_run.specs.Summary.{mixed}
use Rattle.dt_run.proofs.print.mix.mixed_lines.Goals as goal

pub loop-line-preserved : goal.loop-line-preserved
loop-line-preserved c = folded_more mixed c.args.mix c.args.lines.now c.loop-line.line-index _ _ _ _ c.loop-line-test.true c.line-item.is c.loop-line.invariant c.mixed-after.ensures
