use Rattle.std.proofs.Common.{refl, sym, subst}
use Rattle.dt_fit.specs.declared.geometry.Geometry.{Geometry}
use Rattle.dt_fit.specs.Geometry.{place_limit}
use Rattle.dt_fit.specs.Fits.{fits, IsLowest, SomePlace}
use Rattle.dt_fit.specs.Cells.{is_tried}
use Rattle.dt_placing.proofs.FreePlaces.{some_place, some_limit, lowest_room}
use Rattle.dt_placing.proofs.choosing.lowest_word.Goals as goal

pub lowest_fit-requires-clause-room : goal.lowest_fit-requires-clause-room
lowest_fit-requires-clause-room c =
    let g = c.args.geometry in
    let used = is_tried c.args.cells.now in
    subst (λ (h : Geometry). SomePlace (fits h used c.args.indexes.now) (place_limit h)) (sym c.requires.geometry)
    (some_limit g (fits g used c.args.indexes.now)
    (some_place g c.rows_fit.ensures.colours c.rows_fit.ensures.displacements used c.args.indexes.now c.requires.indexes c.requires.rows))

pub returns-clause-lowest : goal.returns-clause-lowest
returns-clause-lowest c = (c.lowest_fit.result, refl, subst (λ (h : Geometry). IsLowest (fits h (is_tried c.args.cells.now) c.args.indexes.now) c.lowest_fit.result) c.requires.geometry c.lowest_fit.ensures.lowest)

pub returns-clause-room : goal.returns-clause-room
returns-clause-room c =
    let g = c.args.geometry in
    let used = is_tried c.args.cells.now in
    lowest_room g (fits g used c.args.indexes.now) c.lowest_fit.result c.lowest_place_is_one.ensures.least
    (some_place g c.rows_fit.ensures.colours c.rows_fit.ensures.displacements used c.args.indexes.now c.requires.indexes c.requires.rows)
    (subst (λ (h : Geometry). IsLowest (fits h used c.args.indexes.now) c.lowest_fit.result) c.requires.geometry c.lowest_fit.ensures.lowest)
