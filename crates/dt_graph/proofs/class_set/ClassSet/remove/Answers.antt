use Rattle.std.proofs.Common.{◌==◌, ◌&&◌, not, ◌∙◌, ap, arith}
use Rattle.dt_graph.specs.Graph.{has_number}
use Rattle.dt_graph.specs.declared.limits.TheConstants.{CLASSES}
use Rattle.dt_graph.proofs.ClassBits.{removed}
use Rattle.dt_graph.proofs.class_set.ClassSet.remove.Goals as goal

pub returns : goal.returns
returns c = λ n.
    removed CLASSES c.self.inside.words c.args.self.now c.number-number.result n c.self.view_is (omega (arith, c.self.told)) c.number-number.ensures.in_range
    ∙ ap (λ m. has_number c.args.self.now n && not (n == m)) c.number-number.ensures.value
