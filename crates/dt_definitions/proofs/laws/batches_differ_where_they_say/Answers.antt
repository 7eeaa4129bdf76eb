use Rattle.dt_definitions.proofs.Differing.{batches_differ, batches_keep_law}
use Rattle.dt_definitions.proofs.laws.batches_differ_where_they_say.Goals as goal

pub returns : goal.returns
returns c = record {
  lawful = batches_keep_law;
  differ = batches_differ;
}
