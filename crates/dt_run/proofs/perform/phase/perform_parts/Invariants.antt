use Rattle.std.proofs.Common.{◌≡◌, ◌++◌, take, drop, length, map}
use Rattle.dt_run.specs.Performing.{room, part_logs, with_parts}
use Rattle.dt_run.proofs.perform.phase.perform_parts.Given as goal

abbrev pub invariant-loop-place : goal.invariant-loop-place
invariant-loop-place g l = record {
  same : l.current ≡ l.fn.current;
  size : length l.callers ≡ length l.fn.callers;
  rooms : drop l.place l.logs ≡ map room (drop l.place l.parts);
  logs : take l.place l.logs ++ part_logs l.fn.current l.callers (drop l.place l.parts) ≡ part_logs l.fn.current l.fn.callers l.parts;
  pins : with_parts l.fn.current l.callers (drop l.place l.parts) ≡ with_parts l.fn.current l.fn.callers l.parts;
}
