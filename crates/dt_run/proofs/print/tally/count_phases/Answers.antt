use Rattle.dt_run.proofs.Tallying.{one_more}
use Rattle.dt_run.specs.Summary.{batches_in}
use Rattle.dt_run.proofs.print.tally.count_phases.Goals as goal

pub loop-phase-preserved : goal.loop-phase-preserved
loop-phase-preserved c = one_more (batches_in c.args.accepted) c.args.phases.now c.loop-phase.phase-index _ _ 0 _ _ c.loop-phase-test.true c.phase-item.is c.loop-phase.invariant c.count_phase-count.ensures
