use Rattle.std.proofs.Common.{◌∙◌, ◌<◌, length, arith}
use Rattle.dt_graph.proofs.Rows.{parents_of-read}
use Rattle.dt_graph.proofs.class_rows.ClassRows.parents.Goals as goal

pub returns : goal.returns
returns c =
    let inside : c.number.result < length c.self.inside.rows.items = omega (arith, c.self.invariant.count, c.number.ensures.in_range) in
    c.as_slice.ensures.value ∙ parents_of-read c.args.self.now c.self.inside.rows.items c.index.result.now c.number.result c.args.class c.self.view_is c.number.ensures.value inside c.index.ensures
