use Rattle.std.proofs.Common.{◌∙◌, ap, arith}
use Rattle.dt_graph.specs.Graph.{has_number}
use Rattle.dt_graph.specs.declared.limits.TheConstants.{CLASSES}
use Rattle.dt_graph.proofs.ClassBits.{bit_read}
use Rattle.dt_graph.proofs.class_set.ClassSet.contains.Goals as goal

pub returns : goal.returns
returns c =
    bit_read CLASSES c.self.inside.words c.args.self.now c.number-number.result c.self.view_is (omega (arith, c.self.told))
    ∙ ap (has_number c.args.self.now) c.number-number.ensures.value
