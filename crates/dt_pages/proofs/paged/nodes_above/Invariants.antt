use Rattle.std.proofs.Common.{◌≡◌, take, map}
use Rattle.dt_pages.specs.Numbering.{over}
use Rattle.dt_pages.proofs.paged.nodes_above.Given as goal

abbrev pub invariant-loop-node : goal.invariant-loop-node
invariant-loop-node l = l.above.items ≡ map over (take l.node-index l.nodes)
