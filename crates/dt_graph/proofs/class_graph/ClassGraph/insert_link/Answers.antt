use Rattle.std.proofs.Common.{◌<◌, sym, subst, arith}
use Rattle.dt_graph.specs.Graph.{Graph}
use Rattle.dt_graph.specs.Renewal.{ShowsBelow}
use Rattle.dt_graph.specs.declared.limits.TheConstants.{CLASSES}
use Rattle.dt_graph.proofs.Renewing.{joined}
use Rattle.dt_graph.proofs.class_graph.ClassGraph.insert_link.Goals as goal

pub invariant_of-self : goal.invariant_of-self
invariant_of-self c =
    let class_in : c.args.class < CLASSES = omega arith in
    let parent_in : c.args.parent < CLASSES = omega arith in
    let P : Graph → Type 0 = λ g. ShowsBelow g.links c.join.new.self in
    subst P (sym c.insert_link.ensures)
    (joined c.self.inside.rows.links c.args.class c.args.parent c.self.inside.ancestry c.join.new.self class_in parent_in c.join.ensures c.self.invariant)
