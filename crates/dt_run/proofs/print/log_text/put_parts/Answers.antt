use Rattle.dt_run.specs.Putting.{part_text}
use Rattle.dt_run.proofs.Putting.{turn, turn_stopped}
use Rattle.dt_run.proofs.print.log_text.put_parts.Goals as goal

pub loop-part-preserved : goal.loop-part-preserved
loop-part-preserved g c = turn _ _ _ (part_text c.args.names.now) c.args.parts.now c.loop-part.part-index _ _ c.loop-part-test.true c.part-item.is c.loop-part.invariant c.in_ok-put_part.ensures

pub returns-in_err-put_part : goal.returns-in_err-put_part
returns-in_err-put_part g c = turn_stopped _ _ _ _ (part_text c.args.names.now) c.args.parts.now c.loop-part.part-index _ _ c.from_residual.ensures.0 c.loop-part-test.true c.part-item.is c.loop-part.invariant c.in_err-put_part.ensures
