use Rattle.std.proofs.Common.{◌≡◌, ◌++◌, ◌-◌, []}
use Rattle.std.specs.List.{range_with_len}
use Rattle.dt_propagate.specs.Boxes.{in_turn}
use Rattle.dt_propagate.specs.Counted.{CountsOn}
use Rattle.dt_propagate.specs.GoneThrough.{told_after}
use Rattle.dt_propagate.specs.Walk.{told_change}
use Rattle.dt_propagate.proofs.walk.push_arities.Given as goal

abbrev pub invariant-loop-arity : goal.invariant-loop-arity
invariant-loop-arity g l = record {
  told : l.out.changes.items ≡ l.fn.out.changes.items ++ in_turn (λ k. told_after (told_change l.fn.old l.fn.new) l.fn.selector k []) (range_with_len 1 (l.arity - 1));
  counted : CountsOn l.fn.steps l.steps l.fn.out.counted l.out.counted;
}
