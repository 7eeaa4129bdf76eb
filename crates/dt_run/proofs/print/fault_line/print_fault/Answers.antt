use Rattle.std.proofs.Common.{append-nil}
use Rattle.dt_run.specs.FaultText.{fault_text}
use Rattle.dt_run.proofs.Putting.{then_more}
use Rattle.dt_run.proofs.NamedText.{flushed, cut}
use Rattle.dt_run.proofs.print.fault_line.print_fault.Goals as goal

pub returns : goal.returns
returns g c =
    let all = flushed c.flush.result _ _ _ _ _ _ (fault_text c.args.fault) c.new-out.ensures c.flush.ensures.empty
    (rw (← append-nil (fault_text c.args.fault)) (then_more c.flush.result _ _ _ _ _ c.in_ok-put_fault_line.ensures c.flush.ensures.put)) in
    record { ok = all.0; prefix = all.1; counted = all.2; counts = all.3 }

pub returns-in_err-put_fault_line-clause-prefix : goal.returns-in_err-put_fault_line-clause-prefix
returns-in_err-put_fault_line-clause-prefix g c = cut _ _ _ _ _ _ (fault_text c.args.fault) c.new-out.ensures c.in_err-put_fault_line.ensures
