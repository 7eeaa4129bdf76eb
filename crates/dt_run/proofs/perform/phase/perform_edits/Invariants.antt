use Rattle.std.proofs.Common.{◌≡◌, ◌≤◌, ◌++◌, drop}
use Rattle.dt_run.specs.Performing.{edit_lines, after_batches}
use Rattle.dt_run.proofs.perform.phase.perform_edits.Given as goal

abbrev pub invariant-loop-batch : goal.invariant-loop-batch
invariant-loop-batch g l = record {
  lines : l.lines.items ++ edit_lines l.limit l.current (drop l.batch-index l.batches) ≡ edit_lines l.limit l.fn.current l.batches;
  version : after_batches l.limit l.current (drop l.batch-index l.batches) ≡ after_batches l.limit l.fn.current l.batches;
  few : l.current.version ≤ l.limit;
}
