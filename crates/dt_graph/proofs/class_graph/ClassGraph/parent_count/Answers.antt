use Rattle.std.proofs.Common.{◌∙◌, length, sym, ap}
use Rattle.dt_graph.proofs.ParentLists.{parent_count_listed}
use Rattle.dt_graph.proofs.class_graph.ClassGraph.parent_count.Goals as goal

pub returns : goal.returns
returns c = ap length c.parents.ensures ∙ sym (parent_count_listed c.args.self.now.links c.args.class)
