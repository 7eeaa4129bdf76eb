use Rattle.std.proofs.Common.{◌∙◌, ap, arith}
use Rattle.dt_graph.specs.Graph.{has_number, insert_number}
use Rattle.dt_graph.specs.declared.limits.TheConstants.{CLASSES}
use Rattle.dt_graph.proofs.LinkLists.{has_number-placed}
use Rattle.dt_graph.proofs.ClassBits.{inserted}
use Rattle.dt_graph.proofs.class_set.ClassSet.insert.Goals as goal

pub returns-clause-list : goal.returns-clause-list
returns-clause-list c =
    inserted CLASSES c.self.inside.words c.args.self.now c.number-number.result c.self.view_is (omega (arith, c.self.told)) c.number-number.ensures.in_range
    ∙ ap (λ n. insert_number n c.args.self.now) c.number-number.ensures.value

pub returns-clause-members : goal.returns-clause-members
returns-clause-members c = λ n.
    ap (λ ns. has_number ns n) (returns-clause-list c) ∙ has_number-placed c.args.class c.args.self.now n
