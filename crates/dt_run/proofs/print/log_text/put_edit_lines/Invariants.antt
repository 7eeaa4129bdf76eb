use Rattle.std.proofs.Common.{take}
use Rattle.dt_run.specs.Putting.{out_of, IsPut, edits_text}
use Rattle.dt_run.proofs.print.log_text.put_edit_lines.Given as goal

abbrev pub invariant-loop-line : goal.invariant-loop-line
invariant-loop-line g l =
    IsPut (out_of (g.K.Sink.taken l.fn.sink) (g.K.Sink.faults l.fn.sink) l.fn.out) (out_of (g.K.Sink.taken l.sink) (g.K.Sink.faults l.sink) l.out) (edits_text l.names (take l.line-index l.lines))
