use Rattle.std.proofs.Common.{◌≡◌, ◌<◌, ◌≤◌, ℕ, length, get_or, drop}
use Rattle.dt_cells.specs.Cell.{cell_word}
use Rattle.dt_cells.specs.Held.{Held, held_after}
use Rattle.dt_placing.specs.Rows.{single}
use Rattle.dt_placing.specs.Placing.{tag_of}
use Rattle.dt_placing.proofs.row.change_row.Given as goal

abbrev pub invariant-loop-at : goal.invariant-loop-at
invariant-loop-at l = record {
  within : l.at ≤ length l.own;
  count : length l.row.items ≡ 2048;
  words : (held : Held) → ((class : ℕ) → class < 2048 → get_or l.initial.row.items class 0 ≡ cell_word (tag_of l.selector) (held (single l.selector class)))
      → (class : ℕ) → class < 2048 → get_or l.row.items class 0 ≡ cell_word (tag_of l.selector) (held_after held (drop l.at l.own) (single l.selector class));
}

abbrev pub decreases-loop-at : goal.decreases-loop-at
decreases-loop-at l = l.at
