use Rattle.dt_run.proofs.print.put_buffer.PutBuffer.flush.Goals as goal
use Rattle.dt_run.proofs.Putting.{front_of_prefix}
use Rattle.std.proofs.Common.{append-nil}

pub returns-in_err-put_all-clause-put : goal.returns-in_err-put_all-clause-put
returns-in_err-put_all-clause-put g c =
    front_of_prefix _ _ _ _ c.from_residual.ensures.0 (rw (append-nil, ← c.self.view_is) c.in_err-put_all.ensures.prefix) c.in_err-put_all.ensures.counted c.in_err-put_all.ensures.counts
