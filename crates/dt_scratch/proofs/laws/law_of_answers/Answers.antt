use Rattle.dt_scratch.proofs.Lowest.{methods_are_lowest, lowest_answers, not_understood_where_none, methods_are_in_range}
use Rattle.dt_scratch.proofs.SameAnswers.{same_answers}
use Rattle.dt_scratch.proofs.laws.law_of_answers.Goals as goal

pub returns : goal.returns
returns c = record {
  method = methods_are_lowest;
  lowest = lowest_answers;
  none = not_understood_where_none;
  in_range = methods_are_in_range;
  same = same_answers;
}
