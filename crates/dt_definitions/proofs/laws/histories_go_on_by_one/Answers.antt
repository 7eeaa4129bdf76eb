use Rattle.std.proofs.Common.{[], ◌∷◌}
use Rattle.dt_definitions.proofs.AnswerLaws.{histories_go_on}
use Rattle.dt_definitions.proofs.laws.histories_go_on_by_one.Goals as goal

pub returns : goal.returns
returns c = λ history batch. histories_go_on history (batch ∷ [])
