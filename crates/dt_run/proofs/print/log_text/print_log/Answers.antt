use Rattle.std.proofs.Common.{append-nil}
use Rattle.dt_run.specs.Putting.{log_text}
use Rattle.dt_run.proofs.Putting.{then_more}
use Rattle.dt_run.proofs.NamedText.{printed, cut_short}
use Rattle.dt_run.proofs.print.log_text.print_log.Goals as goal

pub returns : goal.returns
returns g c =
    let all = printed c.flush.result _ _ _ _ _ _ c.args.names.now c.args.log.now c.new-out.ensures c.requires c.flush.ensures.empty
    (rw (← append-nil (log_text c.args.names.now c.args.log.now)) (then_more c.flush.result _ _ _ _ _ c.in_ok-put_log.ensures c.flush.ensures.put)) in
    record { ok = all.0; prefix = all.1; counted = all.2; counts = all.3 }

pub returns-in_err-put_log-clause-prefix : goal.returns-in_err-put_log-clause-prefix
returns-in_err-put_log-clause-prefix g c = cut_short _ _ _ _ _ _ c.args.names.now c.args.log.now c.new-out.ensures c.requires c.in_err-put_log.ensures
