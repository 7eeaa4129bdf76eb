use Rattle.std.proofs.Common.{◌≡◌, ◌==◌, ◌&&◌, ◌||◌, ◌-◌, ◌<◌, ℕ, suc, not, is_some, option_copied, Option, List, false, sym, ap, subst, ◌∙◌}
use Rattle.slab.specs.Slab.{get}
use Rattle.dt_pages.specs.Image.{look_up}
use Rattle.dt_pages.specs.Draft.{laid_over}
use Rattle.dt_fit.specs.Cells.{is_tried}
use Rattle.dt_placing.specs.Turn.{Laid}
use Rattle.dt_mrd.specs.declared.kept_row.KeptRow.{KeptRow}
use Rattle.dt_mrd.specs.Reading.{cell_at}
use Rattle.dt_mrd.specs.Kept.{row_at, tag_in, next_in}
use Rattle.dt_mrd.specs.Laying.{has_cell, is_among, number_at}
use Rattle.dt_mrd.proofs.Displacements.{are_classes, laid_outside, laid_same}
use Rattle.dt_mrd.proofs.taking.take_away.Goals as goal

pub free_cells-requires-clause-classes : goal.free_cells-requires-clause-classes
free_cells-requires-clause-classes c = are_classes c.as_slice-indexes.result.now (λ class e. c.requires.classes class
    (sym (ap (λ (l : List ℕ). is_among l class) c.as_slice-indexes.ensures.value ∙ c.in_ok-listed.ensures class ∙ ap (λ (r : Option KeptRow). is_some (next_in r class)) c.row_at-old.ensures) ∙ e))

pub clear_cells-requires-clause-classes : goal.clear_cells-requires-clause-classes
clear_cells-requires-clause-classes c = are_classes c.as_slice-indexes.result.now (λ class e. c.requires.classes class
    (sym (ap (λ (l : List ℕ). is_among l class) c.as_slice-indexes.ensures.value ∙ c.in_ok-listed.ensures class ∙ ap (λ (r : Option KeptRow). is_some (next_in r class)) c.row_at-old.ensures) ∙ e))

pub returns-clause-away : goal.returns-clause-away
returns-clause-away c =
    let x = look_up c.args.tree.now in
    let rows = get c.args.rows.now in
    let old : Option KeptRow = row_at rows c.args.turn.now.old in
    let new : Option KeptRow = row_at rows c.args.turn.now.new in
    let tags : c.tag_in-tag.result ≡ tag_in old = c.tag_in-tag.ensures ∙ ap tag_in c.row_at-old.ensures in
    let test : (class : ℕ) → (is_among c.as_slice-indexes.result.now class && not (is_some (next_in (option_copied c.row_at-new.result) class))) ≡ (has_cell old class && not (has_cell new class))
    = (λ class. ap (λ b. b && not (is_some (next_in (option_copied c.row_at-new.result) class)))
    (ap (λ (l : List ℕ). is_among l class) c.as_slice-indexes.ensures.value ∙ c.in_ok-listed.ensures class ∙ ap (λ (r : Option KeptRow). is_some (next_in r class)) c.row_at-old.ensures)
    ∙ ap (λ (r : Option KeptRow). has_cell old class && not (is_some (next_in r class))) c.row_at-new.ensures) in
    record {
      frees = laid_same (number_at (tag_in old)) _ (λ class. has_cell old class && not (has_cell new class)) (λ class. false) (is_tried c.args.cells.now) (is_tried c.free_cells.new.cells) test
          (subst (λ t. Laid (number_at t) (λ class. is_among c.as_slice-indexes.result.now class && not (is_some (next_in (option_copied c.row_at-new.result) class))) (λ class. false) 2048
          (is_tried c.args.cells.now) (is_tried c.free_cells.new.cells)) tags c.in_ok-free_cells.ensures.tried);
      clears = laid_same (cell_at (tag_in old)) _ (λ class. has_cell old class && not (has_cell new class)) (λ class. 0) (laid_over c.args.draft.now x) (laid_over c.clear_cells.new.draft x) test
          (subst (λ t. Laid (cell_at t) (λ class. is_among c.as_slice-indexes.result.now class && not (is_some (next_in (option_copied c.row_at-new.result) class))) (λ class. 0) 2048
          (laid_over c.args.draft.now x) (laid_over c.clear_cells.new.draft x)) tags c.in_ok-clear_cells.ensures);
      gives = λ displacement. c.in_ok-free_displacement.ensures.given displacement
          ∙ ap (λ b. (b || not (suc displacement == c.tag_in-tag.result)) && is_tried c.args.taken.now displacement) c.is_some.ensures
          ∙ ap (λ t. (is_some c.args.turn.now.new || not (suc displacement == t)) && is_tried c.args.taken.now displacement) tags;
    }

pub returns-clause-rest : goal.returns-clause-rest
returns-clause-rest c =
    let x = look_up c.args.tree.now in
    let tags : c.tag_in-tag.result ≡ tag_in (row_at (get c.args.rows.now) c.args.turn.now.old) = c.tag_in-tag.ensures ∙ ap tag_in c.row_at-old.ensures in
    laid_outside c.tag_in-tag.result _ (λ class. 0) (laid_over c.args.draft.now x) (laid_over c.clear_cells.new.draft x)
    (subst (λ t. t - 1 < 67106816) (sym tags) c.requires.tag) c.in_ok-clear_cells.ensures
