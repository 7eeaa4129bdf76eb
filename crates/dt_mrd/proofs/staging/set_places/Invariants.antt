use Rattle.std.proofs.Common.{◌≡◌, ℕ, drop}
use Rattle.slab.specs.Slab.{get}
use Rattle.dt_pages.specs.Reading.{Reading}
use Rattle.dt_pages.specs.Draft.{laid_over}
use Rattle.dt_mrd.specs.Staging.{with_places}
use Rattle.dt_mrd.proofs.staging.set_places.Given as goal

abbrev pub invariant-loop-root : goal.invariant-loop-root
invariant-loop-root l = (base : Reading) (address : ℕ) → with_places (get l.rows) (drop l.root-index l.staged) (laid_over l.draft base) address
    ≡ with_places (get l.rows) l.staged (laid_over l.initial.draft base) address
