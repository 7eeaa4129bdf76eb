use Rattle.dt_pages.specs.Image.{look_up}
use Rattle.dt_pages.specs.Draft.{laid_over}
use Rattle.dt_mrd.proofs.Settling.{undone_stands, undone_can_lay}
use Rattle.dt_mrd.proofs.kept_rows.KeptRows.stage.Goals as goal

pub lay_and_place-requires : goal.lay_and_place-requires
lay_and_place-requires c =
    let x = look_up c.args.tree.now in
    (c.requires.0, undone_can_lay c.args.self.now c.undo.new.self x (laid_over c.args.draft.now x) c.requires.0 c.args.changes.now c.undo.ensures.least c.undo.ensures.roots c.undo.ensures.rows c.undo.ensures.fresh c.undo.ensures.cells c.undo.ensures.taken c.requires.1)

pub returns-in_err-staged-clause-stands : goal.returns-in_err-staged-clause-stands
returns-in_err-staged-clause-stands c = λ x held st.
    c.lay_and_place.ensures.stands x held (undone_stands c.args.self.now c.undo.new.self x held c.undo.ensures.least c.undo.ensures.roots c.undo.ensures.rows c.undo.ensures.fresh c.undo.ensures.cells c.undo.ensures.taken st)

pub returns-clause-stands : goal.returns-clause-stands
returns-clause-stands c = λ x held st.
    c.lay_and_place.ensures.stands x held (undone_stands c.args.self.now c.undo.new.self x held c.undo.ensures.least c.undo.ensures.roots c.undo.ensures.rows c.undo.ensures.fresh c.undo.ensures.cells c.undo.ensures.taken st)

pub returns-clause-placed : goal.returns-clause-placed
returns-clause-placed c = λ held can.
    let x = look_up c.args.tree.now in
    c.in_ok-staged.ensures.placed held (undone_can_lay c.args.self.now c.undo.new.self x (laid_over c.args.draft.now x) held c.args.changes.now c.undo.ensures.least c.undo.ensures.roots c.undo.ensures.rows c.undo.ensures.fresh c.undo.ensures.cells c.undo.ensures.taken can)
