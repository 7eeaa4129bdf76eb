use Rattle.std.proofs.Common.{◌≡◌, ◌+◌, take}
use Rattle.std.specs.Prelude.{min}
use Rattle.std.specs.List.{sum_by}
use Rattle.dt_run.specs.Tallying.{greatest}
use Rattle.dt_run.specs.Summary.{told_by}
use Rattle.dt_run.proofs.print.tally.tell_parts.Given as goal

abbrev pub invariant-loop-part : goal.invariant-loop-part
invariant-loop-part l = l.count ≡ min (l.fn.before + sum_by (told_by l.fn.told) (take l.part-index l.fn.parts)) greatest
