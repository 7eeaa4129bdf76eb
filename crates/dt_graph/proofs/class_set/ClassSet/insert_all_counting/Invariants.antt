use Rattle.std.proofs.Common.{◌≡◌, ℕ, ◌*◌, ◌<◌, ◌≤◌, length, get_or}
use Rattle.std.specs.Prelude.{bit_or}
use Rattle.dt_graph.specs.ClassSet.{numbers_below}
use Rattle.dt_graph.proofs.class_set.ClassSet.insert_all_counting.Given as goal

abbrev pub invariant-loop-i : goal.invariant-loop-i
invariant-loop-i l = record {
  all : length l.self-inside.words ≡ 32;
  done : (j : ℕ) → j < l.i → get_or l.self-inside.words j 0 ≡ bit_or (get_or l.initial.self-inside.words j 0) (get_or l.other-inside.words j 0);
  left : (j : ℕ) → l.i ≤ j → get_or l.self-inside.words j 0 ≡ get_or l.initial.self-inside.words j 0;
  few : l.count ≤ 64 * l.i;
  counted : l.count ≡ length (numbers_below (64 * l.i) l.self-inside.words);
}
