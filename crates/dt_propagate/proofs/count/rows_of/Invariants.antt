use Rattle.std.proofs.Common.{◌≡◌, ◌≤◌, length, []}
use Rattle.std.specs.List.{range_with_len}
use Rattle.dt_propagate.specs.Begun.{told_begun}
use Rattle.dt_propagate.specs.Boxes.{in_turn}
use Rattle.dt_propagate.specs.GoneThrough.{told_after}
use Rattle.dt_propagate.proofs.count.rows_of.Given as goal

abbrev pub invariant-loop-count : goal.invariant-loop-count
invariant-loop-count l = record {
  few : l.rows ≤ l.fn.most;
  so_far : l.rows ≡ length (in_turn (λ k. told_after (told_begun l.fn.program) l.fn.selector k []) (range_with_len 0 l.count));
}
