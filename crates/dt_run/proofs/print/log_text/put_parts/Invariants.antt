use Rattle.std.proofs.Common.{take, flat_map}
use Rattle.dt_run.specs.Putting.{out_of, IsPut, part_text}
use Rattle.dt_run.proofs.print.log_text.put_parts.Given as goal

abbrev pub invariant-loop-part : goal.invariant-loop-part
invariant-loop-part g l =
    IsPut (out_of (g.K.Sink.taken l.fn.sink) (g.K.Sink.faults l.fn.sink) l.fn.out) (out_of (g.K.Sink.taken l.sink) (g.K.Sink.faults l.sink) l.out) (flat_map (part_text l.names) (take l.part-index l.parts))
