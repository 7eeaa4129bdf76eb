use Rattle.dt_propagate.proofs.DifferNear.{differ_below}
use Rattle.dt_propagate.proofs.differences.push_touched.Goals as goal

pub touched-touched-requires : goal.touched-touched-requires
touched-touched-requires g c =
    differ_below c.args.old.now c.args.new.now c.args.keys.now c.args.edited.now c.moved-moved.result c.requires
    (rw (c.graph.ensures, c.graph-2.ensures) at c.moved-moved.ensures)

pub push_all-requires-clause-near : goal.push_all-requires-clause-near
push_all-requires-clause-near g c =
    differ_below c.args.old.now c.args.new.now c.args.keys.now c.args.edited.now c.moved-moved.result c.requires
    (rw (c.graph.ensures, c.graph-2.ensures) at c.moved-moved.ensures)
