use Rattle.dt_run.proofs.Putting.{then_more, stopped}
use Rattle.dt_run.proofs.print.put_buffer.PutBuffer.put.Goals as goal

pub returns : goal.returns
returns g c = then_more _ _ _ _ _ _ c.in_ok-flush.ensures.put c.put_first.ensures

pub returns-in_err-flush : goal.returns-in_err-flush
returns-in_err-flush g c = stopped _ _ _ _ _ c.from_residual.ensures.0 c.in_err-flush.ensures.put
