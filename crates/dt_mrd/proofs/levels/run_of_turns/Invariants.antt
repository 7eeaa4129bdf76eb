use Rattle.std.proofs.Common.{◌≡◌, ◌≤◌, ◌-◌, length, take, All}
use Rattle.dt_mrd.specs.Levels.{prefix_of}
use Rattle.dt_mrd.proofs.levels.run_of_turns.Given as goal

abbrev pub invariant-loop-count : goal.invariant-loop-count
invariant-loop-count l = record {
  within : l.count ≤ length l.led;
  same : All (λ turn. prefix_of l.depth (turn.query) ≡ prefix_of l.depth l.query) (take l.count l.led);
}

abbrev pub decreases-loop-count : goal.decreases-loop-count
decreases-loop-count l = length l.led - l.count
