use Rattle.std.proofs.Common.{◌≡◌, ◌<◌, ℕ, sym, ap, subst, ◌∙◌, arith}
use Rattle.dt_graph.specs.Graph.{Graph, has_number}
use Rattle.dt_graph.specs.Below.{is_below}
use Rattle.dt_graph.specs.Lawful.{LawfulGraph}
use Rattle.dt_graph.specs.declared.limits.TheConstants.{CLASSES}
use Rattle.dt_graph.proofs.DescendantLists.{above_everywhere, above_live}
use Rattle.dt_graph.proofs.class_graph.ClassGraph.above.Goals as goal

lawful : (c : goal.After-law-2) → LawfulGraph c.args.self.now
lawful c = subst LawfulGraph c.self.view_is c.law.ensures.lawful

shown : (c : goal.After-law-2) → (high : ℕ) → has_number c.above-above.result.now high ≡ is_below c.args.self.now.links c.args.class high
shown c =
    let class_in : c.args.class < CLASSES = omega arith in
    above_everywhere c.args.self.now c.args.class c.above-above.result.now (lawful c) class_in c.law-2.ensures.in_range (λ high high_in.
    ap (λ ns. has_number ns high) c.above-above.ensures
    ∙ c.self.invariant.each c.args.class high class_in high_in ∙ ap (λ (g : Graph). is_below g.links c.args.class high) c.self.view_is)

pub returns-clause-test : goal.returns-clause-test
returns-clause-test c = shown c

pub returns-clause-live : goal.returns-clause-live
returns-clause-live c = λ high live listed. above_live c.args.self.now (lawful c) c.args.class high live (sym (shown c high) ∙ listed)
