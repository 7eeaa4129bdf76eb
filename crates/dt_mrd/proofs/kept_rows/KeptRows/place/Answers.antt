use Rattle.std.proofs.Common.{[], sym, subst}
use Rattle.slab.specs.Slab.{get}
use Rattle.dt_pages.specs.Image.{look_up}
use Rattle.dt_pages.specs.Draft.{laid_over}
use Rattle.dt_fit.specs.Cells.{is_tried}
use Rattle.dt_mrd.specs.declared.kept_rows.KeptRows.{KeptRows}
use Rattle.dt_mrd.specs.Turns.{ArePlaced}
use Rattle.dt_mrd.proofs.kept_rows.KeptRows.place.Goals as goal

pub take_turns-requires-clause-able : goal.take_turns-requires-clause-able
take_turns-requires-clause-able c =
    let x = look_up c.args.tree.now in
    let able = c.requires.able in
    let away = c.take_all_away.new in (
      able.0,
      able.1,
      able.2,
      subst (λ (k : KeptRows). ArePlaced x (laid_over away.draft x) able.0 able.1 k.roots.items able.2 (get k.rows) k.fresh.items c.args.turns.now [] (is_tried away.self.cells) (is_tried away.self.taken))
          (sym c.take_all_away.ensures.rest_kept) (c.in_ok-take_all_away.ensures.ready able.0 able.1 able.2 able.3),
    )

pub returns-clause-placed : goal.returns-clause-placed
returns-clause-placed c = λ held changes roots can.
    let x = look_up c.args.tree.now in
    let away = c.take_all_away.new in
    let over = c.take_turns.new in
    subst (λ (k : KeptRows). ArePlaced x (laid_over over.draft x) held changes k.roots.items roots (get over.self.rows) k.fresh.items c.args.turns.now c.args.turns.now
    (is_tried over.self.cells) (is_tried over.self.taken)) c.take_all_away.ensures.rest_kept
    (c.in_ok-take_turns.ensures.placed held changes roots
    (subst (λ (k : KeptRows). ArePlaced x (laid_over away.draft x) held changes k.roots.items roots (get k.rows) k.fresh.items c.args.turns.now [] (is_tried away.self.cells) (is_tried away.self.taken))
    (sym c.take_all_away.ensures.rest_kept) (c.in_ok-take_all_away.ensures.ready held changes roots can)))
