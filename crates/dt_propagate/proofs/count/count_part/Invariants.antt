use Rattle.std.proofs.Common.{◌≡◌, ◌≤◌, length}
use Rattle.std.specs.List.{range_with_len}
use Rattle.dt_propagate.specs.Begun.{told_part}
use Rattle.dt_propagate.specs.Boxes.{in_turn}
use Rattle.dt_propagate.proofs.count.count_part.Given as goal

abbrev pub invariant-loop-number : goal.invariant-loop-number
invariant-loop-number l = record {
  few : l.count ≤ l.fn.most;
  so_far : l.count ≡ length (in_turn (told_part l.fn.program l.fn.part) (range_with_len 0 l.number));
}
