use Rattle.std.proofs.Common.{length, sym, ap, subst, ◌∙◌}
use Rattle.dt_graph.specs.Lawful.{LawfulGraph}
use Rattle.dt_graph.proofs.DescendantLists.{no_descendants}
use Rattle.dt_graph.proofs.class_graph.ClassGraph.below_count.Goals as goal

pub returns-then-not-is_live : goal.returns-then-not-is_live
returns-then-not-is_live c =
    ap length (no_descendants c.args.self.now c.args.class (subst LawfulGraph c.self.view_is c.law.ensures.lawful) (sym c.is_live.ensures ∙ c.if-not-is_live.true))

pub returns : goal.returns
returns c = c.len.ensures ∙ ap length (c.counted_below.ensures.live (sym c.is_live.ensures ∙ c.if-not-is_live.false))
