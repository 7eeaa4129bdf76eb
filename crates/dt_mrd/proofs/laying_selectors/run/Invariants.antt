use Rattle.std.proofs.Common.{◌≡◌, ◌+◌, ◌-◌, ◌≤◌, length, drop}
use Rattle.dt_placing.specs.Turn.{run_of}
use Rattle.dt_mrd.proofs.laying_selectors.run.Given as goal

abbrev pub invariant-loop-count : goal.invariant-loop-count
invariant-loop-count l = record {
  within : l.count ≤ length l.changes;
  rest : l.count + run_of l.selector (drop l.count l.changes) ≡ run_of l.selector l.changes;
}

abbrev pub decreases-loop-count : goal.decreases-loop-count
decreases-loop-count l = length l.changes - l.count
