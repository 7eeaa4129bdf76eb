use Rattle.dt_graph.specs.Graph.{has_number}
use Rattle.dt_propagate.proofs.WalkSteps.{inserted_next}
use Rattle.dt_propagate.proofs.walk.insert_next.Goals as goal

pub returns : goal.returns
returns c n =
    let program = c.args.program.now in
    let prefix = c.args.prefix.now in
    let graph = c.graph-graph.ensures in
    let d = c.insert_defined.ensures n in
    let k = c.insert_redefined.ensures n in
    inserted_next program c.args.selector c.args.keys.now c.args.nears.now c.definitions_of.result.now prefix n
    (has_number c.args.next.now n) (has_number c.insert_defined.new.next n) (has_number c.insert_redefined.new.next n)
    c.definitions_of.ensures (rw graph at d) (rw graph at k)
