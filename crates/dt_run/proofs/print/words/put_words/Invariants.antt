use Rattle.std.proofs.Common.{take}
use Rattle.dt_run.specs.Putting.{out_of, IsPut, spaced_words}
use Rattle.dt_run.proofs.print.words.put_words.Given as goal

abbrev pub invariant-loop-word : goal.invariant-loop-word
invariant-loop-word g l =
    IsPut (out_of (g.K.Sink.taken l.fn.sink) (g.K.Sink.faults l.fn.sink) l.fn.out) (out_of (g.K.Sink.taken l.sink) (g.K.Sink.faults l.sink) l.out) (spaced_words (take l.word-index l.words))
