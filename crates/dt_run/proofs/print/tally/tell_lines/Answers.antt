use Rattle.dt_run.proofs.Tallying.{one_more}
use Rattle.dt_run.specs.Summary.{is_told, one_if}
use Rattle.dt_run.proofs.print.tally.tell_lines.Goals as goal

pub loop-line-preserved : goal.loop-line-preserved
loop-line-preserved c = one_more (λ line. one_if (is_told c.args.told line)) c.args.lines.now c.loop-line.line-index _ _ c.args.before _ _ c.loop-line-test.true c.line-item.is c.loop-line.invariant (rw c.is_told.ensures at c.add_if-count.ensures)
