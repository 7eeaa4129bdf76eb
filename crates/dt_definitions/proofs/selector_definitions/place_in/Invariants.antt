use Rattle.std.proofs.Common.{◌-◌, ◌≤◌, length}
use Rattle.dt_definitions.specs.Program.{are_classes_before}
use Rattle.dt_definitions.specs.SelectorLists.{classes_at}
use Rattle.dt_definitions.specs.Search.{first_place}
use Rattle.dt_definitions.proofs.selector_definitions.place_in.Given as goal

abbrev pub invariant-loop-low : goal.invariant-loop-low
invariant-loop-low l = record {
  from_low : l.low ≤ first_place classes_at are_classes_before l.classes l.row;
  to_high : first_place classes_at are_classes_before l.classes l.row ≤ l.high;
  within : l.high ≤ length l.row;
}

abbrev pub decreases-loop-low : goal.decreases-loop-low
decreases-loop-low l = l.high - l.low
