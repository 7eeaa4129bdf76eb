use Rattle.std.proofs.Common.{◌≡◌, replicate, None}
use Rattle.dt_run.proofs.perform.callers_up_to.Given as goal

abbrev pub invariant-loop-number : goal.invariant-loop-number
invariant-loop-number l = l.callers.items ≡ replicate l._number None
