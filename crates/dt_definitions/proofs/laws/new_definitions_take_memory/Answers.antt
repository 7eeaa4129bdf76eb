use Rattle.dt_definitions.proofs.MemoryLaws.{one_more_takes_memory, memory_is_for_one_more, refused_edits_take_none, without_the_test_decided, without_the_test_decided_batch, decided_is_free, decided_batch_is_free}
use Rattle.dt_definitions.proofs.laws.new_definitions_take_memory.Goals as goal

pub returns : goal.returns
returns c = record {
  new = one_more_takes_memory;
  only = memory_is_for_one_more;
  refused = refused_edits_take_none;
  decided = without_the_test_decided;
  batch_decided = without_the_test_decided_batch;
  free = decided_is_free;
  batch_free = decided_batch_is_free;
}
