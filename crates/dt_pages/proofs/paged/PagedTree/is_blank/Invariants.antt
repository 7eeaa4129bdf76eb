use Rattle.std.proofs.Common.{◌≡◌, ℕ, ◌-◌, ◌*◌, ◌+◌, ◌<◌}
use Rattle.dt_pages.specs.Reading.{addresses}
use Rattle.dt_pages.specs.Draft.{laid_over}
use Rattle.dt_pages.specs.Paged.{numbering}
use Rattle.dt_pages.proofs.paged.PagedTree.is_blank.Given as goal

abbrev pub invariant-loop-at : goal.invariant-loop-at
invariant-loop-at l =
    (l.first ≡ 512 * (l.node - addresses)) × ((q : ℕ) → q < l.at → laid_over l.changes (numbering l.self) (l.first + q) ≡ 0)
