use Rattle.std.proofs.Common.{◌^◌, arith}
use Rattle.dt_fit.specs.Geometry.{place_limit}
use Rattle.dt_fit.specs.Fits.{fits_untaken}
use Rattle.dt_fit.specs.Cells.{is_tried}
use Rattle.dt_fit.specs.Bits.{is_open}
use Rattle.dt_fit.specs.Undoing.{undone}
use Rattle.dt_fit.proofs.Cells.{room_for, lowest_in_range, lowest_of_other, limit_small}
use Rattle.dt_fit.proofs.Shown.{taken_shown, same_untaken}
use Rattle.dt_fit.proofs.used_cells.UsedCells.lowest_untaken_fit.Goals as goal

pub lowest_open-requires-clause-room : goal.lowest_open-requires-clause-room
lowest_open-requires-clause-room c =
    let inside = c.self.inside in
    let cells = c.args.self.now in
    room_for (is_open c.deref.result.now c.deref-2.result.now c.step.result c.args.indexes.now) (fits_untaken cells.geometry (is_tried c.args.taken.now) (is_tried cells) c.args.indexes.now) (place_limit cells.geometry) (2 ^ 26)
    (same_untaken inside.geometry (undone inside.journal.items inside.words.items) inside.words.items c.deref-2.result.now c.taken.inside.words.items c.deref.result.now c.args.indexes.now c.step.result cells (is_tried c.args.taken.now)
    c.self.view_is c.requires.indexes c.deref-2.ensures.value c.deref.ensures.value c.step.ensures.value (taken_shown c.taken.inside.geometry (undone c.taken.inside.journal.items c.taken.inside.words.items) c.taken.inside.words.items c.args.taken.now c.taken.view_is c.requires.places))
    (limit_small cells.geometry) c.requires.room

pub returns-clause-in_range : goal.returns-clause-in_range
returns-clause-in_range c =
    let inside = c.self.inside in
    let cells = c.args.self.now in
    lowest_in_range (is_open c.deref.result.now c.deref-2.result.now c.step.result c.args.indexes.now) (fits_untaken cells.geometry (is_tried c.args.taken.now) (is_tried cells) c.args.indexes.now) (place_limit cells.geometry) c.lowest_open.result
    (same_untaken inside.geometry (undone inside.journal.items inside.words.items) inside.words.items c.deref-2.result.now c.taken.inside.words.items c.deref.result.now c.args.indexes.now c.step.result cells (is_tried c.args.taken.now)
    c.self.view_is c.requires.indexes c.deref-2.ensures.value c.deref.ensures.value c.step.ensures.value (taken_shown c.taken.inside.geometry (undone c.taken.inside.journal.items c.taken.inside.words.items) c.taken.inside.words.items c.args.taken.now c.taken.view_is c.requires.places))
    c.requires.room c.lowest_open.ensures.lowest

pub overflow_cast-result : goal.overflow_cast-result
overflow_cast-result c =
    let cells = c.args.self.now in
    omega (arith, limit_small cells.geometry, returns-clause-in_range c)

pub returns-clause-lowest : goal.returns-clause-lowest
returns-clause-lowest c =
    let inside = c.self.inside in
    let cells = c.args.self.now in
    lowest_of_other (is_open c.deref.result.now c.deref-2.result.now c.step.result c.args.indexes.now) (fits_untaken cells.geometry (is_tried c.args.taken.now) (is_tried cells) c.args.indexes.now) (place_limit cells.geometry) c.lowest_open.result
    (same_untaken inside.geometry (undone inside.journal.items inside.words.items) inside.words.items c.deref-2.result.now c.taken.inside.words.items c.deref.result.now c.args.indexes.now c.step.result cells (is_tried c.args.taken.now)
    c.self.view_is c.requires.indexes c.deref-2.ensures.value c.deref.ensures.value c.step.ensures.value (taken_shown c.taken.inside.geometry (undone c.taken.inside.journal.items c.taken.inside.words.items) c.taken.inside.words.items c.args.taken.now c.taken.view_is c.requires.places))
    (returns-clause-in_range c) c.lowest_open.ensures.lowest
