use Rattle.std.proofs.Common.{◌≡◌, ◌+◌, take}
use Rattle.std.specs.Prelude.{min}
use Rattle.std.specs.List.{sum_by}
use Rattle.dt_run.specs.Tallying.{greatest}
use Rattle.dt_run.specs.Summary.{told_in}
use Rattle.dt_run.proofs.print.tally.tell_phases.Given as goal

abbrev pub invariant-loop-phase : goal.invariant-loop-phase
invariant-loop-phase l = l.count ≡ min (0 + sum_by (told_in l.fn.told) (take l.phase-index l.fn.phases)) greatest
