use Rattle.std.proofs.Common.{refl}
use Rattle.dt_run.specs.Summary.{figure_text}
use Rattle.dt_run.proofs.Putting.{turn, turn_stopped}
use Rattle.dt_run.proofs.print.summary.put_figures.Goals as goal

pub loop-figure-preserved : goal.loop-figure-preserved
loop-figure-preserved g c = turn _ _ _ (figure_text c.args.names.now c.args.log.now) c.args.figures.now c.loop-figure.figure-index _ _ c.loop-figure-test.true refl c.loop-figure.invariant c.in_ok-put_figure.ensures

pub returns-in_err-put_figure : goal.returns-in_err-put_figure
returns-in_err-put_figure g c = turn_stopped _ _ _ _ (figure_text c.args.names.now c.args.log.now) c.args.figures.now c.loop-figure.figure-index _ _ c.from_residual.ensures.0 c.loop-figure-test.true refl c.loop-figure.invariant c.in_err-put_figure.ensures
