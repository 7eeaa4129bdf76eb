use Rattle.dt_scratch.proofs.Locality.{edits_change, edits_concern_the_same, batches_change}
use Rattle.dt_scratch.proofs.laws.edits_change_what_they_concern.Goals as goal

pub returns : goal.returns
returns c = record {
  edit = edits_change;
  before_and_after = edits_concern_the_same;
  batch = batches_change;
}
