use Rattle.std.proofs.Common.{◌≡◌, take}
use Rattle.std.specs.List.{fold}
use Rattle.dt_run.specs.Summary.{mixed_in}
use Rattle.dt_run.proofs.print.mix.mixed_phases.Given as goal

abbrev pub invariant-loop-phase : goal.invariant-loop-phase
invariant-loop-phase l = l.after ≡ fold mixed_in 0 (take l.phase-index l.fn.phases)
