use Rattle.dt_definitions.proofs.AnswerLaws.{edits_have_one_answer, edits_have_an_answer, ok_has_no_cause, refusals_are_the_first_cause, ok_alone_changes}
use Rattle.dt_definitions.proofs.laws.edits_have_one_answer.Goals as goal

pub returns : goal.returns
returns c = record {
  one = edits_have_one_answer;
  some = edits_have_an_answer;
  accepted = ok_has_no_cause;
  refused = refusals_are_the_first_cause;
  unchanged = ok_alone_changes;
}
