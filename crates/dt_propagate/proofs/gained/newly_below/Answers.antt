use Rattle.std.proofs.Common.{not, filter, length, sym, ap, ◌∙◌}
use Rattle.dt_graph.specs.Below.{is_below}
use Rattle.dt_graph.proofs.DescendantLists.{no_descendants}
use Rattle.dt_propagate.proofs.GainedLists.{newly_is}
use Rattle.dt_propagate.proofs.gained.newly_below.Goals as goal

pub returns-then-not-is_live : goal.returns-then-not-is_live
returns-then-not-is_live c =
    ap (λ classes. length (filter (λ low. not (is_below c.args.old.now.links low c.args.class)) classes))
    (no_descendants c.args.new.now c.args.class c.law.ensures.lawful (sym c.is_live.ensures ∙ c.if-not-is_live.true))

pub returns : goal.returns
returns c =
    let live = c.below.ensures.live (sym c.is_live.ensures ∙ c.if-not-is_live.false) in
    newly_is c.args.old.now c.args.new.now c.args.class c.below.result.now c.below-2.result.now c.without-newly.result c.len.result
    c.law.ensures.lawful live c.below-2.ensures.test c.without-newly.ensures c.law-2.ensures.determined c.len.ensures.value
