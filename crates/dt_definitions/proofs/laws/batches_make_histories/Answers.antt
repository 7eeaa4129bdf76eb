use Rattle.dt_definitions.proofs.AnswerLaws.{histories_go_on, batches_make_histories}
use Rattle.dt_definitions.proofs.laws.batches_make_histories.Goals as goal

pub returns : goal.returns
returns c = record {
  goes_on = histories_go_on;
  applied = batches_make_histories;
}
