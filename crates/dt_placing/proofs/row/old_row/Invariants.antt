use Rattle.std.proofs.Common.{◌≡◌, ◌<◌, ℕ, length, get_or}
use Rattle.dt_pages.specs.Image.{look_up}
use Rattle.dt_placing.specs.Turn.{own_word}
use Rattle.dt_placing.proofs.row.old_row.Given as goal

abbrev pub invariant-loop-class : goal.invariant-loop-class
invariant-loop-class l = record {
  count : length l.row.items ≡ l.class;
  words : (class : ℕ) → class < l.class → get_or l.row.items class 0 ≡ own_word l.geometry (look_up l.tree) l.selector l.before class;
}
