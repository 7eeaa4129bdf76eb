use Rattle.std.proofs.Common.{◌≡◌, ◌<◌, ℕ, ap, subst, All, ◌∙◌, arith}
use Rattle.dt_graph.specs.Graph.{Graph, has_number}
use Rattle.dt_graph.specs.Below.{is_below}
use Rattle.dt_graph.specs.Lawful.{LawfulGraph, AscendingNumbers}
use Rattle.dt_graph.specs.declared.limits.TheConstants.{CLASSES}
use Rattle.dt_graph.proofs.DescendantLists.{below_everywhere, descendants_shown}
use Rattle.dt_graph.proofs.class_graph.ClassGraph.counted_below.Goals as goal

lawful : (c : goal.After-law-2) → LawfulGraph c.args.self.now
lawful c = subst LawfulGraph c.self.view_is c.law.ensures.lawful

shown : (c : goal.After-law-2) → (low : ℕ) → low < CLASSES → has_number c.counted_below-below.result.now low ≡ is_below c.args.self.now.links low c.args.class
shown c low low_in =
    let class_in : c.args.class < CLASSES = omega arith in
    c.counted_below-below.ensures low low_in ∙ c.self.invariant.each low c.args.class low_in class_in ∙ ap (λ (g : Graph). is_below g.links low c.args.class) c.self.view_is

pub returns-clause-test : goal.returns-clause-test
returns-clause-test c =
    let class_in : c.args.class < CLASSES = omega arith in
    below_everywhere c.args.self.now c.args.class c.counted_below-below.result.now (lawful c) class_in (subst (All (λ n. n < CLASSES)) c.as_set.ensures c.law-2.ensures.in_range) (shown c)

pub returns-clause-live : goal.returns-clause-live
returns-clause-live c = λ live.
    descendants_shown c.args.self.now c.args.class c.counted_below-below.result.now (lawful c) live (subst AscendingNumbers c.as_set.ensures c.law-2.ensures.ascend) (subst (All (λ n. n < CLASSES)) c.as_set.ensures c.law-2.ensures.in_range) (shown c)
