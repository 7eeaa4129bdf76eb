use Rattle.dt_definitions.proofs.AnswerLaws.{batches_have_one_answer, batches_have_an_answer, ok_alone_changes_by_batch, one_edit_is_a_batch, batches_go_on, batches_end, later_edits_dont_count}
use Rattle.dt_definitions.proofs.laws.batches_have_one_answer.Goals as goal

pub returns : goal.returns
returns c = record {
  one = batches_have_one_answer;
  some = batches_have_an_answer;
  unchanged = ok_alone_changes_by_batch;
  of_one_edit = one_edit_is_a_batch;
  goes_on = batches_go_on;
  ends = batches_end;
  stays_refused = later_edits_dont_count;
}
