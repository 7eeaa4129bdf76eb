use Rattle.std.proofs.Common.{◌≡◌, ◌==◌, None, get_or, if◌then◌else◌, refl, ap, ◌∙◌}
use Rattle.slab.specs.Slab.{get}
use Rattle.dt_pages.specs.Reading.{Reading}
use Rattle.dt_pages.specs.Draft.{laid_over}
use Rattle.dt_mrd.specs.declared.staged.StagedRoot.{StagedRoot}
use Rattle.dt_cells.specs.Regions.{place_of}
use Rattle.dt_mrd.specs.Kept.{row_at, tag_in}
use Rattle.dt_mrd.proofs.PlaceWords.{place_step}
use Rattle.dt_mrd.proofs.staging.set_places.Goals as goal

pub loop-root-preserved : goal.loop-root-preserved
loop-root-preserved c = λ base address.
    let rows = get c.args.rows.now in
    let staged = c.args.staged.now in
    let i = c.loop-root.root-index in
    let none : StagedRoot = record { selector = 0; key = None } in
    let root = get_or staged i none in
    let tag : c.from.result ≡ tag_in (row_at rows root.key) = c.from.ensures ∙ c.tag_in-tag.ensures ∙ ap tag_in c.row_at.ensures in
    ap (λ (w : Reading). w address)
    (place_step rows staged i none (get_or staged i none) (laid_over c.loop-root.draft base) (laid_over c.set.new.self base) c.loop-root-test.true refl
    (λ a. c.in_ok-set.ensures.reads base a
    ∙ ap (λ n. if a == n then c.from.result else laid_over c.loop-root.draft base a) c.place_address.ensures
    ∙ ap (λ n. if a == place_of root.selector then n else laid_over c.loop-root.draft base a) tag))
    ∙ c.loop-root.invariant base address
