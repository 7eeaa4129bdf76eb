use Rattle.std.proofs.Common.{◌≡◌, ◌-◌, ◌≤◌, length, drop}
use Rattle.dt_mrd.specs.Rows.{is_below}
use Rattle.dt_mrd.proofs.levels.is_below.Given as goal

abbrev pub invariant-loop-at : goal.invariant-loop-at
invariant-loop-at l = record {
  within : l.at ≤ length l.classes;
  within_others : l.at ≤ length l.others;
  rest : is_below (drop l.at l.classes) (drop l.at l.others) ≡ is_below l.classes l.others;
}

abbrev pub decreases-loop-at : goal.decreases-loop-at
decreases-loop-at l = length l.classes - l.at
