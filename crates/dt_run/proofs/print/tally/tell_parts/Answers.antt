use Rattle.dt_run.proofs.Tallying.{one_more}
use Rattle.dt_run.specs.Summary.{told_by}
use Rattle.dt_run.proofs.print.tally.tell_parts.Goals as goal

pub loop-part-preserved : goal.loop-part-preserved
loop-part-preserved c = one_more (told_by c.args.told) c.args.parts.now c.loop-part.part-index _ _ c.args.before _ _ c.loop-part-test.true c.part-item.is c.loop-part.invariant c.tell_part-count.ensures
