use Rattle.std.proofs.Common.{◌≡◌, take}
use Rattle.std.specs.List.{fold}
use Rattle.dt_run.specs.Summary.{mixed}
use Rattle.dt_run.proofs.print.mix.mixed_lines.Given as goal

abbrev pub invariant-loop-line : goal.invariant-loop-line
invariant-loop-line l = l.after ≡ fold mixed l.fn.mix (take l.line-index l.fn.lines)
