use Rattle.std.proofs.Common.{◌∙◌, sym, ap}
use Rattle.dt_graph.specs.Graph.{has_number}
use Rattle.dt_graph.proofs.ParentLists.{has_link_listed}
use Rattle.dt_graph.proofs.class_graph.ClassGraph.has_link.Goals as goal

pub returns : goal.returns
returns c =
    c.contains.ensures.value
    ∙ ap (λ ps. has_number ps c.args.parent) c.parents.ensures
    ∙ sym (has_link_listed c.args.self.now.links c.args.class c.args.parent)
