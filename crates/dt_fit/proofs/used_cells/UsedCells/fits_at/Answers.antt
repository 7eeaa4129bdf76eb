use Rattle.std.proofs.Common.{◌∙◌}
use Rattle.dt_fit.specs.Undoing.{undone}
use Rattle.dt_fit.proofs.Shown.{same_fits}
use Rattle.dt_fit.proofs.used_cells.UsedCells.fits_at.Goals as goal

pub returns : goal.returns
returns c =
    let inside = c.self.inside in
    c.are_free.ensures
    ∙ same_fits inside.geometry (undone inside.journal.items inside.words.items) inside.words.items c.deref.result.now c.args.indexes.now c.step.result c.args.self.now
    c.self.view_is c.requires.indexes c.deref.ensures.value c.step.ensures.value c.args.place c.requires.place
