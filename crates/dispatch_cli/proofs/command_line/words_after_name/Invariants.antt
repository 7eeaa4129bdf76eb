use Rattle.std.proofs.Common.{◌≡◌, ◌++◌, length, map, string_bytes}
use Rattle.std.specs.Vec.Iter.{into_iter_items, into_iter_len}
use Rattle.dispatch_cli.proofs.command_line.words_after_name.Given as goal

-- the words so far, and those to come, are all but the first
abbrev pub invariant-loop-word : goal.invariant-loop-word
invariant-loop-word l =
    (l.words ++ map string_bytes (into_iter_items l.word-iterator) ≡ map string_bytes (into_iter_items l.initial.word-iterator))
    × (into_iter_len l.word-iterator ≡ length (into_iter_items l.word-iterator))
