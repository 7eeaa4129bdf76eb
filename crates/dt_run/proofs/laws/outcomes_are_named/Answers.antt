use Rattle.dt_run.proofs.NamedOutcome.{outcome_is_named}
use Rattle.dt_run.proofs.laws.outcomes_are_named.Goals as goal

pub returns : goal.returns
returns c = outcome_is_named
