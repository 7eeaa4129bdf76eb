use Rattle.std.proofs.Common.{ap, sym, ◌∙◌}
use Rattle.dt_graph.specs.Graph.{has_number}
use Rattle.dt_propagate.proofs.WalkSteps.{unmarked_next}
use Rattle.dt_propagate.proofs.walk.next_classes.Goals as goal

pub returns-then-is_unmarked : goal.returns-then-is_unmarked
returns-then-is_unmarked c n =
    let first = c.insert_redefined.ensures n in
    let second = c.insert_redefined-then-is_unmarked.ensures n in
    unmarked_next c.args.old.now c.args.new.now c.args.selector c.args.keys.now c.args.nears.now c.args.prefix.now n
    (has_number c.new-next.result n) (has_number c.insert_redefined.new.next n) (has_number c.insert_redefined-then-is_unmarked.new.next n)
    (sym c.is_unmarked.ensures ∙ c.if-is_unmarked.true) (ap (λ ns. has_number ns n) c.new-next.ensures)
    (rw c.graph.ensures at first) (rw c.graph-then-is_unmarked.ensures at second)
