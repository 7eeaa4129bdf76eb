use Rattle.std.proofs.Common.{◌≡◌, ℕ, ◌<◌, [], length, get_or}
use Rattle.dt_pages.specs.Draft.{laid_over}
use Rattle.dt_pages.specs.Numbering.{child}
use Rattle.dt_pages.specs.Paged.{numbering}
use Rattle.dt_pages.proofs.plan.contents.Given as goal

abbrev pub invariant-loop-node : goal.invariant-loop-node
invariant-loop-node l =
    (length l.pages.items ≡ l.node-index)
    × ((k at : ℕ) → k < l.node-index → at < 512 → get_or (get_or l.pages.items k []) at 0 ≡ laid_over l.changes (numbering l.tree) (child (get_or l.nodes k 0) at))
