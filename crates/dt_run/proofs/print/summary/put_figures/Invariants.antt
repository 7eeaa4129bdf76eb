use Rattle.std.proofs.Common.{take, flat_map}
use Rattle.dt_run.specs.Putting.{out_of, IsPut}
use Rattle.dt_run.specs.Summary.{figure_text}
use Rattle.dt_run.proofs.print.summary.put_figures.Given as goal

abbrev pub invariant-loop-figure : goal.invariant-loop-figure
invariant-loop-figure g l =
    IsPut (out_of (g.K.Sink.taken l.fn.sink) (g.K.Sink.faults l.fn.sink) l.fn.out) (out_of (g.K.Sink.taken l.sink) (g.K.Sink.faults l.sink) l.out) (flat_map (figure_text l.names l.log) (take l.figure-index l.figures))
