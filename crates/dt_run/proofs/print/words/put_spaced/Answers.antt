use Rattle.dt_run.proofs.Putting.{then_more, stopped}
use Rattle.dt_run.proofs.print.words.put_spaced.Goals as goal

pub returns : goal.returns
returns g c = then_more _ _ _ _ _ _ c.in_ok-put.ensures c.put-2.ensures

pub returns-in_err-put : goal.returns-in_err-put
returns-in_err-put g c = stopped _ _ _ _ _ c.from_residual.ensures.0 c.in_err-put.ensures
