use Rattle.std.proofs.Common.{◌≡◌, ℕ, List, sym, subst, rules}
use Rattle.dt_pages.specs.Image.{look_up}
use Rattle.dt_pages.specs.Draft.{laid_over}
use Rattle.dt_cells.specs.Standing.{CanStage}
use Rattle.dt_fit.specs.Cells.{Cells}
use Rattle.dt_placing.specs.Placing.{Kept, Stands, placing}
use Rattle.dt_placing.specs.Turn.{CanTakeTurns, AreWordsOf}
use Rattle.dt_placing.proofs.Keeping.{can_take, staged_follows}
use Rattle.dt_placing.proofs.places.SelectorPlaces.stage.Goals as goal

pub returns-clause-placed : goal.returns-clause-placed
returns-clause-placed c = λ held can.
    let g = c.args.geometry in
    let x = look_up c.args.tree.now in
    let d = laid_over c.args.draft.now x in
    let kept : Kept = record { words = c.self.inside.words.items; cells = c.self.inside.cells } in
    let view : c.args.self.now ≡ kept = search rules in
    let able : CanStage (placing g) (Stands g kept) 1 x d held c.args.changes.now = subst (λ (k : Kept). CanStage (placing g) (Stands g k) 1 x d held c.args.changes.now) view can in
    let made = c.in_ok-staged.ensures.placed held
    (subst (λ (cells : Cells). CanTakeTurns g cells c.as_slice-words.result.now x d held c.args.changes.now) (sym c.undo.ensures)
    (subst (λ (l : List ℕ). CanTakeTurns g (record kept.cells { tried = kept.cells.kept }) l x d held c.args.changes.now) (sym c.as_slice-words.ensures.value)
    (can_take g kept x d held c.args.changes.now able))) in (
      made.0,
      staged_follows g kept c.take_turns.new.cells c.in_ok-staged.staged.items x d (laid_over c.take_turns.new.draft x) held c.args.changes.now able made.0 made.1
          (subst (λ (l : List ℕ). AreWordsOf l c.args.changes.now (laid_over c.take_turns.new.draft x) c.in_ok-staged.staged.items) c.as_slice-words.ensures.value c.in_ok-staged.ensures.words),
    )
