use Rattle.dt_run.proofs.Putting.{put_at_once}
use Rattle.dt_run.proofs.print.put_buffer.PutBuffer.put_first.Goals as goal

pub returns-then-bytes-gt-ROOM : goal.returns-then-bytes-gt-ROOM
returns-then-bytes-gt-ROOM g c = rw c.requires (put_at_once _ _ _ _ _ _ c.put_all.ensures.ok c.put_all.ensures.prefix c.put_all.ensures.counted c.put_all.ensures.counts)
