use Rattle.std.proofs.Common.{append-nil}
use Rattle.dt_run.specs.Summary.{summary_of}
use Rattle.dt_run.proofs.Putting.{then_more}
use Rattle.dt_run.proofs.NamedText.{flushed, cut}
use Rattle.dt_run.proofs.print.summary.print_summary.Goals as goal

pub returns : goal.returns
returns g c =
    let all = flushed c.flush.result _ _ _ _ _ _ (summary_of c.args.names.now c.args.log.now) c.new-out.ensures c.flush.ensures.empty
    (rw (← append-nil (summary_of c.args.names.now c.args.log.now)) (then_more c.flush.result _ _ _ _ _ c.in_ok-put_summary.ensures c.flush.ensures.put)) in
    record { ok = all.0; prefix = all.1; counted = all.2; counts = all.3 }

pub returns-in_err-put_summary-clause-prefix : goal.returns-in_err-put_summary-clause-prefix
returns-in_err-put_summary-clause-prefix g c = cut _ _ _ _ _ _ (summary_of c.args.names.now c.args.log.now) c.new-out.ensures c.in_err-put_summary.ensures
