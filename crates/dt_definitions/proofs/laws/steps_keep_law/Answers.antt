use Rattle.dt_definitions.proofs.LawfulSteps.{step-lawful, empty-lawful}
use Rattle.dt_definitions.proofs.laws.steps_keep_law.Goals as goal

pub returns : goal.returns
returns c = record { empty = empty-lawful; step = step-lawful }
