use Rattle.dt_outside.proofs.Losing.{loses_more}
use Rattle.dt_outside.proofs.reading.read_to_end.Goals as goal

pub returns-in_err-count-clause-lost : goal.returns-in_err-count-clause-lost
returns-in_err-count-clause-lost g c =
    let before = c.loop-source.invariant in
    loses_more _ _ _ _ _ _ c.loop-source.bytes.ok.0 before.bound before.moved c.in_err-count.ensures.lost
