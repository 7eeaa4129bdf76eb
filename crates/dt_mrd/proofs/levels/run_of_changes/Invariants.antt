use Rattle.std.proofs.Common.{◌≡◌, ◌≤◌, ◌-◌, length, take, All}
use Rattle.dt_mrd.specs.Levels.{prefix_of}
use Rattle.dt_mrd.proofs.levels.run_of_changes.Given as goal

abbrev pub invariant-loop-count : goal.invariant-loop-count
invariant-loop-count l = record {
  within : l.count ≤ length l.changes;
  same : All (λ change. prefix_of l.depth (change.query) ≡ prefix_of l.depth l.query) (take l.count l.changes);
}

abbrev pub decreases-loop-count : goal.decreases-loop-count
decreases-loop-count l = length l.changes - l.count
