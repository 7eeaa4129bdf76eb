use Rattle.dt_run.proofs.Putting.{then_two, then_stopped, stopped}
use Rattle.dt_run.proofs.print.log_text.put_phase.Goals as goal

pub returns : goal.returns
returns g c = rw (← c.phase.view_is)
    (then_two _ _ _ _ _ _ _ _ (rw (← c.phase.view_is) at c.in_ok-put_phase_line.ensures) (rw c.deref.ensures.value at c.in_ok-put_edit_lines.ensures) (rw c.deref-2.ensures.value at c.put_parts.ensures))

pub returns-in_err-put_phase_line : goal.returns-in_err-put_phase_line
returns-in_err-put_phase_line g c = stopped _ _ _ _ _ c.from_residual.ensures.0 c.in_err-put_phase_line.ensures

pub returns-in_err-put_edit_lines : goal.returns-in_err-put_edit_lines
returns-in_err-put_edit_lines g c = rw (← c.phase.view_is)
    (then_stopped _ _ _ _ _ _ _ c.from_residual-in_err-put_edit_lines.ensures.0 (rw (← c.phase.view_is) at c.in_ok-put_phase_line.ensures) (rw c.deref.ensures.value at c.in_err-put_edit_lines.ensures))
