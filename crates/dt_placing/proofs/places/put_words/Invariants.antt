use Rattle.std.proofs.Common.{◌≡◌, drop, length}
use Rattle.dt_placing.specs.Placing.{with_words}
use Rattle.dt_placing.proofs.places.put_words.Given as goal

abbrev pub invariant-loop-word : goal.invariant-loop-word
invariant-loop-word l = record {
  count : length l.words.items ≡ 4096;
  words : with_words (drop l.word-index l.staged) l.words.items ≡ with_words l.staged l.initial.words.items;
}
