use Rattle.std.proofs.Common.{◌-◌, ◌≤◌, length}
use Rattle.dt_definitions.specs.Program.{is_key_before}
use Rattle.dt_definitions.specs.Naming.{itself}
use Rattle.dt_definitions.specs.Search.{first_place}
use Rattle.dt_definitions.proofs.naming.key_place.Given as goal

abbrev pub invariant-loop-low : goal.invariant-loop-low
invariant-loop-low l = record {
  from_low : l.low ≤ first_place itself is_key_before (record { selector = l.selector; classes = l.classes }) l.keys;
  to_high : first_place itself is_key_before (record { selector = l.selector; classes = l.classes }) l.keys ≤ l.high;
  within : l.high ≤ length l.keys;
}

abbrev pub decreases-loop-low : goal.decreases-loop-low
decreases-loop-low l = l.high - l.low
