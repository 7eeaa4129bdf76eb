use Rattle.std.proofs.Common.{ap}
use Rattle.dt_propagate.proofs.MarkSteps.{names_is, both_named}
use Rattle.dt_graph.specs.Graph.{has_number}
use Rattle.dt_propagate.proofs.marks.named_at.Goals as goal

pub returns : goal.returns
returns c n =
    let first = names_is c.args.old.now c.args.selector c.args.position c.definitions_of.result.now n c.definitions_of.ensures in
    let second = names_is c.args.new.now c.args.selector c.args.position c.definitions_of-2.result.now n c.definitions_of-2.ensures in
    let none = ap (λ list. has_number list n) c.new-named.ensures in
    both_named (has_number c.new-named.result n) _ _ _ _ _ _ none (c.insert_named.ensures n) (c.insert_named-2.ensures n) first second
