use Rattle.dt_run.proofs.Tallying.{folded_more}
use Rattle.dt_run.specs.Summary.{mixed_in}
use Rattle.dt_run.proofs.print.mix.mixed_phases.Goals as goal

pub loop-phase-preserved : goal.loop-phase-preserved
loop-phase-preserved c = folded_more mixed_in 0 c.args.phases.now c.loop-phase.phase-index _ _ _ _ c.loop-phase-test.true c.phase-item.is c.loop-phase.invariant c.mixed_in-after.ensures
