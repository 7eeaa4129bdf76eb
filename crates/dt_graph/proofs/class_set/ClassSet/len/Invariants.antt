use Rattle.std.proofs.Common.{◌≡◌, ◌*◌, ◌≤◌, length}
use Rattle.dt_graph.specs.ClassSet.{numbers_below}
use Rattle.dt_graph.proofs.class_set.ClassSet.len.Given as goal

abbrev pub invariant-loop-word : goal.invariant-loop-word
invariant-loop-word l =
    (length l.word-items ≡ 32) × (l.count ≤ 64 * l.word-index) × (l.count ≡ length (numbers_below (64 * l.word-index) l.word-items))
