use Rattle.std.proofs.Common.{sym, subst}
use Rattle.dt_fit.specs.declared.geometry.Geometry.{Geometry}
use Rattle.dt_fit.specs.Geometry.{place_limit}
use Rattle.dt_fit.specs.Fits.{fits_untaken, IsLowest, SomePlace}
use Rattle.dt_fit.specs.Cells.{is_tried}
use Rattle.dt_mrd.proofs.Choosing.{lowest_is, lowest_room, other_place}
use Rattle.dt_mrd.proofs.row_turn.lowest_tag.Goals as goal

pub lowest_untaken_fit-requires-clause-room : goal.lowest_untaken_fit-requires-clause-room
lowest_untaken_fit-requires-clause-room c =
    subst (λ (g : Geometry). SomePlace (fits_untaken g (is_tried c.args.taken.now) (is_tried c.args.cells.now) c.args.indexes.now) (place_limit g)) (sym c.requires.cells)
    (other_place c.rows_fit.ensures.many (is_tried c.args.cells.now) (is_tried c.args.taken.now) c.args.indexes.now c.requires.rows c.requires.classes)

pub returns-clause-lowest : goal.returns-clause-lowest
returns-clause-lowest c =
    lowest_is (is_tried c.args.cells.now) (is_tried c.args.taken.now) c.args.indexes.now c.lowest_untaken_fit.result
    (subst (λ (g : Geometry). IsLowest (fits_untaken g (is_tried c.args.taken.now) (is_tried c.args.cells.now) c.args.indexes.now) c.lowest_untaken_fit.result)
    c.requires.cells c.lowest_untaken_fit.ensures.lowest)

pub returns-clause-room : goal.returns-clause-room
returns-clause-room c =
    lowest_room c.rows_fit.ensures.many c.lowest_place_is_one.ensures.least (is_tried c.args.cells.now) (is_tried c.args.taken.now) c.args.indexes.now c.lowest_untaken_fit.result
    c.requires.rows c.requires.classes
    (subst (λ (g : Geometry). IsLowest (fits_untaken g (is_tried c.args.taken.now) (is_tried c.args.cells.now) c.args.indexes.now) c.lowest_untaken_fit.result)
    c.requires.cells c.lowest_untaken_fit.ensures.lowest)
