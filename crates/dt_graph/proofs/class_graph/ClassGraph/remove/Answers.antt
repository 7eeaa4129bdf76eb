use Rattle.std.proofs.Common.{ap, ◌∙◌}
use Rattle.dt_graph.specs.GraphChange.{drop_effect}
use Rattle.dt_graph.proofs.Undone.{drop_touches}
use Rattle.dt_graph.proofs.class_graph.ClassGraph.remove.Goals as goal

pub invariant_of-self : goal.invariant_of-self
invariant_of-self c =
    c.renew.ensures c.self.inside.rows c.law.ensures.lawful
    (ap (λ g. drop_effect g c.args.class) c.remove.ensures ∙ drop_touches c.self.inside.rows c.args.class)
    c.self.invariant
