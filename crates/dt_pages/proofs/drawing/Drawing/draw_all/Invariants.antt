use Rattle.std.proofs.Common.{◌≡◌, drop}
use Rattle.dt_pages.specs.Paged.{numbering}
use Rattle.dt_pages.specs.Drawing.{drawn}
use Rattle.dt_pages.proofs.drawing.Drawing.draw_all.Given as goal

abbrev pub invariant-loop-node : goal.invariant-loop-node
invariant-loop-node l =
    drawn (numbering l.tree) l.pages l.self (drop l.node-index l.nodes) ≡ drawn (numbering l.tree) l.pages l.initial.self l.nodes
