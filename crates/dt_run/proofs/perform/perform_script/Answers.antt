use Rattle.std.proofs.Common.{rules}
use Rattle.dt_run.proofs.PerformedOutcome.{logged_is_outcome}
use Rattle.dt_run.proofs.perform.perform_script.Goals as goal

pub returns : goal.returns
returns g c =
    logged_is_outcome c.histories_go_on_by_one.ensures c.args.limit c.args.readers c.args.script.now c.requires.playable
    c.deref.result.now c.in_ok-phases.phases.items c.version.result (search rules)
    c.in_ok-phases.ensures.logs (search rules)
