use Rattle.std.proofs.Common.{eqb}
use Rattle.std.proofs.lemmas.List.Filters.{dedup_is}
use Rattle.dt_pages.proofs.DrawnNodes.{nodes_over_is, all_above}
use Rattle.dt_pages.proofs.paged.nodes_above.Goals as goal

pub returns : goal.returns
returns c = nodes_over_is c.args.nodes.now c.loop-node.above.items c.dedup.new.self.items
    (all_above c.args.nodes.now c.loop-node.above.items c.loop-node.node-index c.loop-node.invariant c.loop-node-test.false)
    (dedup_is eqb c.loop-node.above.items c.dedup.new.self.items c.dedup.ensures.filtered)
