-- That two logs have one shape, as logs of one script have.
use Rattle.std.specs.Prelude.{◌≡◌, length}
use Rattle.std.specs.List.{AllZip}
use Rattle.dt_run.specs.Log.{Log, PhaseLog, PartLog}

-- the same caller, with as many lines
abbrev pub IsSamePart : PartLog → PartLog → Type 0
IsSamePart a b = (a.caller ≡ b.caller) × (length a.lines ≡ length b.lines)

-- as many batches, and the same callers in the same order
abbrev pub IsSamePhase : PhaseLog → PhaseLog → Type 0
IsSamePhase a b = (length a.edits ≡ length b.edits) × AllZip IsSamePart a.callers b.callers

-- as many phases, each like the other's
abbrev pub SameShape : Log → Log → Type 0
SameShape a b = AllZip IsSamePhase a.phases b.phases
