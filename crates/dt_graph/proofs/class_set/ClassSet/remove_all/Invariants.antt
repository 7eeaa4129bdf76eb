use Rattle.std.proofs.Common.{◌≡◌, ℕ, ◌^◌, ◌<◌, ◌≤◌, length, get_or, w64}
use Rattle.std.specs.Prelude.{bit_and}
use Rattle.std.specs.Int.{bit_not}
use Rattle.dt_graph.proofs.class_set.ClassSet.remove_all.Given as goal

abbrev pub invariant-loop-i : goal.invariant-loop-i
invariant-loop-i l =
    (length l.self-inside.words ≡ 32)
    × ((j : ℕ) → j < l.i → get_or l.self-inside.words j 0 ≡ bit_and (get_or l.initial.self-inside.words j 0) (bit_not w64 (get_or l.other-inside.words j 0)))
    × ((j : ℕ) → l.i ≤ j → get_or l.self-inside.words j 0 ≡ get_or l.initial.self-inside.words j 0)
    × ((j : ℕ) → j < l.i → get_or l.other-inside.words j 0 < 2 ^ 64)
