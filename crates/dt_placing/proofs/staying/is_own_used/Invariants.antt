use Rattle.std.proofs.Common.{◌≡◌, ◌<◌, ℕ, true, false}
use Rattle.dt_pages.specs.Image.{look_up}
use Rattle.dt_fit.specs.Cells.{is_tried}
use Rattle.dt_placing.specs.Turn.{number_at, is_own}
use Rattle.dt_placing.proofs.staying.is_own_used.Given as goal

abbrev pub invariant-loop-class : goal.invariant-loop-class
invariant-loop-class l = (class : ℕ) → class < l.class → is_own l.geometry (look_up l.tree) l.selector l.before class ≡ true
    → is_tried l.cells (number_at l.geometry l.before class) ≡ false
