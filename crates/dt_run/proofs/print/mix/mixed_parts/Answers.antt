use Rattle.dt_run.proofs.Tallying.{folded_more}
use Rattle.dt_run.specs.Summary.{mixed_by}
use Rattle.dt_run.proofs.print.mix.mixed_parts.Goals as goal

pub loop-part-preserved : goal.loop-part-preserved
loop-part-preserved c = folded_more mixed_by c.args.mix c.args.parts.now c.loop-part.part-index _ _ _ _ c.loop-part-test.true c.part-item.is c.loop-part.invariant c.mixed_by-after.ensures
