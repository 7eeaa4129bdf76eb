use Rattle.dt_definitions.proofs.BatchLaws.{batch_is_its_edits, edits_are_a_batch, batch_stops, edits_stop_a_batch}
use Rattle.dt_definitions.proofs.laws.batches_are_their_edits.Goals as goal

pub returns : goal.returns
returns c = record { accepted = batch_is_its_edits; one_by_one = edits_are_a_batch; refused = batch_stops; stopped = edits_stop_a_batch }
