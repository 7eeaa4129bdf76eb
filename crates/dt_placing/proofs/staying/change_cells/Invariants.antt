use Rattle.std.proofs.Common.{◌≡◌, ◌==◌, ◌-◌, ◌≤◌, ℕ, not, length, drop}
use Rattle.dt_pages.specs.Image.{look_up}
use Rattle.dt_pages.specs.Draft.{laid_over}
use Rattle.dt_cells.specs.Cell.{cell_word}
use Rattle.dt_fit.specs.Cells.{is_kept, is_tried}
use Rattle.dt_placing.specs.Placing.{cell_at, tag_of}
use Rattle.dt_placing.specs.Turn.{number_at}
use Rattle.dt_placing.specs.Staying.{class_of, laid_by}
use Rattle.dt_placing.proofs.staying.change_cells.Given as goal

abbrev pub invariant-loop-at : goal.invariant-loop-at
invariant-loop-at l = record {
  within : l.at ≤ length l.own;
  geometry_is : l.cells.geometry ≡ l.geometry;
  kept : (cell : ℕ) → is_kept l.cells cell ≡ is_kept l.initial.cells cell;
  tried : (cell : ℕ) → is_tried l.cells cell
      ≡ laid_by (λ change. number_at l.geometry l.before (class_of change)) (λ change. not (cell_word (tag_of l.selector) change.answer == 0)) (drop l.at l.own) (is_tried l.initial.cells) cell;
  words : (address : ℕ) → laid_over l.draft (look_up l.tree) address
      ≡ laid_by (λ change. cell_at l.geometry (l.before - 1) (class_of change)) (λ change. cell_word (tag_of l.selector) change.answer) (drop l.at l.own)
      (laid_over l.initial.draft (look_up l.tree)) address;
}

abbrev pub decreases-loop-at : goal.decreases-loop-at
decreases-loop-at l = l.at
