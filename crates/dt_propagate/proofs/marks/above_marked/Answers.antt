use Rattle.dt_propagate.proofs.marks.above_marked.Goals as goal

pub returns : goal.returns
returns c some = rw (c.graph.ensures, c.graph-2.ensures) at c.above_all.ensures
