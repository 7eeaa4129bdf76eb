use Rattle.std.proofs.Common.{ap, ◌∙◌}
use Rattle.dt_graph.specs.GraphChange.{drop_effect}
use Rattle.dt_graph.proofs.Undone.{unlink_touches}
use Rattle.dt_graph.proofs.class_graph.ClassGraph.remove_link.Goals as goal

pub invariant_of-self : goal.invariant_of-self
invariant_of-self c =
    c.renew.ensures c.self.inside.rows c.law.ensures.lawful
    (ap (λ g. drop_effect g c.args.class) c.remove_link.ensures ∙ unlink_touches c.self.inside.rows c.args.class c.args.parent)
    c.self.invariant
