use Rattle.dt_run.proofs.Putting.{then_more, stopped}
use Rattle.dt_run.proofs.print.log_text.put_log.Goals as goal

pub returns : goal.returns
returns g c = rw (← c.log.view_is) (then_more _ _ _ _ _ _ (rw c.deref.ensures.value at c.in_ok-put_phases.ensures) c.put_line.ensures)

pub returns-in_err-put_phases : goal.returns-in_err-put_phases
returns-in_err-put_phases g c = rw (← c.log.view_is) (stopped _ _ _ _ _ c.from_residual.ensures.0 (rw c.deref.ensures.value at c.in_err-put_phases.ensures))
