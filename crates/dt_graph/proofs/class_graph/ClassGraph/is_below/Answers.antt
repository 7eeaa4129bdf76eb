use Rattle.std.proofs.Common.{◌≡◌, ◌<◌, ◌∙◌, ap, arith}
use Rattle.dt_graph.specs.Graph.{Graph}
use Rattle.dt_graph.specs.Below.{is_below}
use Rattle.dt_graph.specs.declared.limits.TheConstants.{CLASSES}
use Rattle.dt_graph.proofs.Walks.{below_answers}
use Rattle.dt_graph.proofs.class_graph.ClassGraph.is_below.Goals as goal

test : (c : goal.After-holds) → c.holds.result ≡ is_below c.args.self.now.links c.args.low c.args.high
test c =
    let low_in : c.args.low < CLASSES = omega arith in
    let high_in : c.args.high < CLASSES = omega arith in
    c.holds.ensures ∙ c.self.invariant.each c.args.low c.args.high low_in high_in
    ∙ ap (λ (g : Graph). is_below g.links c.args.low c.args.high) c.self.view_is

pub returns-clause-relation : goal.returns-clause-relation
returns-clause-relation c = below_answers c.args.self.now.links c.args.low c.args.high c.holds.result (test c)
