use Rattle.std.proofs.Common.{◌∙◌, ap, arith}
use Rattle.dt_graph.specs.Graph.{has_number, insert_number}
use Rattle.dt_selectors.specs.declared.limits.TheConstants.{SELECTORS}
use Rattle.dt_graph.proofs.LinkLists.{has_number-placed}
use Rattle.dt_graph.proofs.ClassBits.{inserted}
use Rattle.dt_propagate.proofs.selector_set.SelectorSet.insert.Goals as goal

pub returns : goal.returns
returns c n =
    let list = inserted SELECTORS c.self.inside.words c.args.self.now c.number-number.result c.self.view_is (omega (arith, c.self.told)) c.number-number.ensures.in_range
    ∙ ap (λ n. insert_number n c.args.self.now) c.number-number.ensures.value in
    ap (λ ns. has_number ns n) list ∙ has_number-placed c.args.selector c.args.self.now n
