use Rattle.dt_run.proofs.Putting.{then_more, stopped, line_of_words}
use Rattle.dt_run.proofs.print.words.put_line.Goals as goal

pub returns : goal.returns
returns g c = rw (← line_of_words) (then_more _ _ _ _ _ _ c.in_ok-put_head.ensures c.put.ensures)

pub returns-in_err-put_head : goal.returns-in_err-put_head
returns-in_err-put_head g c = rw (← line_of_words) (stopped _ _ _ _ _ c.from_residual.ensures.0 c.in_err-put_head.ensures)
