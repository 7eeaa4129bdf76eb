use Rattle.dt_run.proofs.NamedText.{phase_turn, phase_stopped}
use Rattle.dt_run.proofs.print.log_text.put_phases.Goals as goal

pub loop-place-preserved : goal.loop-place-preserved
loop-place-preserved g c = phase_turn _ _ _ c.args.names.now c.args.phases.now c.loop-place.place _ _ c.loop-place-test.true c.index-phases-place.is c.loop-place.invariant c.in_ok-put_phase.ensures

pub returns-in_err-put_phase : goal.returns-in_err-put_phase
returns-in_err-put_phase g c = phase_stopped _ _ _ _ c.args.names.now c.args.phases.now c.loop-place.place _ _ c.from_residual.ensures.0 c.loop-place-test.true c.index-phases-place.is c.loop-place.invariant c.in_err-put_phase.ensures
