use Rattle.std.proofs.Common.{◌≡◌, ◌+◌, take}
use Rattle.std.specs.Prelude.{min}
use Rattle.std.specs.List.{sum_by}
use Rattle.dt_run.specs.Tallying.{greatest}
use Rattle.dt_run.specs.Summary.{is_as, one_if}
use Rattle.dt_run.proofs.print.tally.count_lines.Given as goal

abbrev pub invariant-loop-line : goal.invariant-loop-line
invariant-loop-line l = l.count ≡ min (l.fn.before + sum_by (λ line. one_if (is_as l.fn.accepted line)) (take l.line-index l.fn.lines)) greatest
