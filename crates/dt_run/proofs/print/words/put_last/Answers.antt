use Rattle.dt_run.proofs.Putting.{then_more, stopped}
use Rattle.dt_run.proofs.print.words.put_last.Goals as goal

pub returns : goal.returns
returns g c = then_more _ _ _ _ _ _ c.in_ok-put_spaced.ensures c.put.ensures

pub returns-in_err-put_spaced : goal.returns-in_err-put_spaced
returns-in_err-put_spaced g c = stopped _ _ _ _ _ c.from_residual.ensures.0 c.in_err-put_spaced.ensures
