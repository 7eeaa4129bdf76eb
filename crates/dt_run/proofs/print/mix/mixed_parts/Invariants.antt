use Rattle.std.proofs.Common.{◌≡◌, take}
use Rattle.std.specs.List.{fold}
use Rattle.dt_run.specs.Summary.{mixed_by}
use Rattle.dt_run.proofs.print.mix.mixed_parts.Given as goal

abbrev pub invariant-loop-part : goal.invariant-loop-part
invariant-loop-part l = l.after ≡ fold mixed_by l.fn.mix (take l.part-index l.fn.parts)
