use Rattle.dt_run.specs.Text.{words_of_edit_line}
use Rattle.dt_run.specs.Putting.{line_text}
use Rattle.dt_run.proofs.Putting.{turn, turn_stopped}
use Rattle.dt_run.proofs.print.log_text.put_edit_lines.Goals as goal

pub loop-line-preserved : goal.loop-line-preserved
loop-line-preserved g c = turn _ _ _ (λ line. line_text c.args.names.now (words_of_edit_line line)) c.args.lines.now c.loop-line.line-index _ _ c.loop-line-test.true c.line-item.is c.loop-line.invariant c.in_ok-put_edit_line.ensures

pub returns-in_err-put_edit_line : goal.returns-in_err-put_edit_line
returns-in_err-put_edit_line g c = turn_stopped _ _ _ _ (λ line. line_text c.args.names.now (words_of_edit_line line)) c.args.lines.now c.loop-line.line-index _ _ c.from_residual.ensures.0 c.loop-line-test.true c.line-item.is c.loop-line.invariant c.in_err-put_edit_line.ensures
