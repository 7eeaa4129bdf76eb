use Rattle.std.proofs.Common.{◌≡◌, ◌≤◌, ◌++◌, drop, length}
use Rattle.dt_run.specs.Performing.{phase_logs, after_phases}
use Rattle.dt_run.proofs.perform.perform_phases.Given as goal

abbrev pub invariant-loop-phase : goal.invariant-loop-phase
invariant-loop-phase g l = record {
  few : l.current.version ≤ l.limit;
  size : length l.callers ≡ length l.fn.callers;
  logs : l.logs.items ++ phase_logs l.limit (record { current = l.current; pins = l.callers }) (drop l.phase-index l.phases)
      ≡ phase_logs l.limit (record { current = l.fn.current; pins = l.fn.callers }) l.phases;
  after : after_phases l.limit (record { current = l.current; pins = l.callers }) (drop l.phase-index l.phases)
      ≡ after_phases l.limit (record { current = l.fn.current; pins = l.fn.callers }) l.phases;
}
