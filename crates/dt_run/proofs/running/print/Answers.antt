use Rattle.dt_words.specs.declared.limits.TheConstants.{VERSIONS}
use Rattle.dt_run.proofs.NamedOutcome.{outcome_is_named}
use Rattle.dt_run.proofs.running.print.Goals as goal

pub print_log-requires : goal.print_log-requires
print_log-requires g c =
    outcome_is_named _ VERSIONS c.args.log (rw (← c.script.view_is) at c.requires.names) (rw (← c.script.view_is) at c.requires.outcome)
