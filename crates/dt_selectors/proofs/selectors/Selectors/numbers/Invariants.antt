use Rattle.std.proofs.Common.{◌≡◌, ◌≤◌, length, filter}
use Rattle.std.specs.List.{range_with_len}
use Rattle.dt_selectors.specs.Selectors.{has_selector}
use Rattle.dt_selectors.proofs.selectors.Selectors.numbers.Given as goal

abbrev pub invariant-loop-number : goal.invariant-loop-number
invariant-loop-number l =
    (length l.numbers.items ≤ l.number) × (l.numbers.items ≡ filter (has_selector l.self) (range_with_len 0 l.number))
