use Rattle.std.proofs.Common.{◌≡◌, ℕ, ◌-◌, ◌*◌, ◌+◌, ◌<◌, get_or}
use Rattle.dt_pages.specs.Reading.{addresses}
use Rattle.dt_pages.specs.Draft.{laid_over}
use Rattle.dt_pages.specs.Paged.{numbering}
use Rattle.dt_pages.proofs.plan.content.Given as goal

abbrev pub invariant-loop-at : goal.invariant-loop-at
invariant-loop-at l =
    (l.first ≡ 512 * (l.node - addresses)) × ((q : ℕ) → q < l.at → get_or l.leaf q 0 ≡ laid_over l.changes (numbering l.tree) (l.first + q))
