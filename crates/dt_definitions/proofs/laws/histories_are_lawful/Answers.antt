use Rattle.dt_definitions.proofs.Histories.{histories_are_lawful}
use Rattle.dt_definitions.proofs.laws.histories_are_lawful.Goals as goal

pub returns : goal.returns
returns c = histories_are_lawful
