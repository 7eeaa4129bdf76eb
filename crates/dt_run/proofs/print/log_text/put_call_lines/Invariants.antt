use Rattle.std.proofs.Common.{take, flat_map}
use Rattle.dt_run.specs.Text.{words_of_call_line}
use Rattle.dt_run.specs.Putting.{out_of, IsPut, line_text}
use Rattle.dt_run.proofs.print.log_text.put_call_lines.Given as goal

abbrev pub invariant-loop-line : goal.invariant-loop-line
invariant-loop-line g l =
    IsPut (out_of (g.K.Sink.taken l.fn.sink) (g.K.Sink.faults l.fn.sink) l.fn.out) (out_of (g.K.Sink.taken l.sink) (g.K.Sink.faults l.sink) l.out) (flat_map (λ line. line_text l.names (words_of_call_line l.caller line)) (take l.line-index l.lines))
