-- The shape of a log: an entry for everything of the script, in its order.
use Rattle.std.specs.Prelude.{◌≡◌, List, length}
use Rattle.std.specs.List.{AllZip}
use Rattle.dt_script.specs.Script.{Part, Phase}
use Rattle.dt_script.specs.declared.line.CallerLine.{CallerLine}
use Rattle.dt_script.specs.declared.line.CallerLine.TheVariants.{Call, Pin, Unpin}
use Rattle.dt_run.specs.Log.{PartLog, PhaseLog}
use Rattle.dt_run.specs.declared.log.CallLine.{CallLine}
use Rattle.dt_run.specs.declared.log.CallLine.TheVariants.{Called, CallWorn, PinnedAt, PinWorn, Unpinned}

-- a call is answered or worn, a pin keeps a version or is worn, an unpin is told
abbrev pub IsLogOfLine : CallerLine → CallLine → Type 0
IsLogOfLine (Call query) (Called stamped) = Unit {0}
IsLogOfLine (Call query) (CallWorn entries) = Unit {0}
IsLogOfLine Pin (PinnedAt version) = Unit {0}
IsLogOfLine Pin (PinWorn entries) = Unit {0}
IsLogOfLine Unpin Unpinned = Unit {0}
IsLogOfLine _ _ = ⊥

-- the same caller, and an entry for each of its lines
abbrev pub IsLogOfPart : Part → PartLog → Type 0
IsLogOfPart part log = (log.caller ≡ part.caller) × AllZip IsLogOfLine part.lines log.lines

-- an entry for each batch and for each caller
abbrev pub IsLogOfPhase : Phase → PhaseLog → Type 0
IsLogOfPhase phase log = (length log.edits ≡ length phase.edits) × AllZip IsLogOfPart phase.callers log.callers

-- Shape: the log has one entry for each phase, batch, caller and line of a caller of the script, in their order.
abbrev pub HasShape : List Phase → List PhaseLog → Type 0
HasShape phases logs = AllZip IsLogOfPhase phases logs
