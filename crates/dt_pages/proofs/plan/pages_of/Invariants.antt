use Rattle.std.proofs.Common.{◌≡◌, ◌++◌, drop}
use Rattle.dt_pages.specs.Paged.{numbering}
use Rattle.dt_pages.specs.Drawing.{pages_of}
use Rattle.dt_pages.proofs.plan.pages_of.Given as goal

abbrev pub invariant-loop-node : goal.invariant-loop-node
invariant-loop-node l =
    l.pages.items ++ pages_of (numbering l.tree) (drop l.node-index l.nodes) ≡ pages_of (numbering l.tree) l.nodes
