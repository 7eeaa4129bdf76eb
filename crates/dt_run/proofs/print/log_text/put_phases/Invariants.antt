use Rattle.std.proofs.Common.{◌≡◌, ℕ, ◌+◌, List, ◌++◌, drop}
use Rattle.dt_run.specs.Putting.{out_of, IsPut, phases_text}
use Rattle.dt_run.proofs.print.log_text.put_phases.Given as goal

abbrev pub invariant-loop-place : goal.invariant-loop-place
invariant-loop-place g l = (so_far : List ℕ)
    × IsPut (out_of (g.K.Sink.taken l.fn.sink) (g.K.Sink.faults l.fn.sink) l.fn.out) (out_of (g.K.Sink.taken l.sink) (g.K.Sink.faults l.sink) l.out) so_far
    × (so_far ++ phases_text l.names (l.place + 1) (drop l.place l.phases) ≡ phases_text l.names 1 l.phases)
