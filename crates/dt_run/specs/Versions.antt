-- The versions of a log: each accepted batch makes the next one.
use Rattle.std.specs.Prelude.{◌≡◌, ℕ, ◌+◌, List, [], ◌∷◌, ◌++◌, length}
use Rattle.dt_definitions.specs.declared.edit.Edit.{Edit}
use Rattle.dt_script.specs.Script.{Phase}
use Rattle.dt_run.specs.Log.{PhaseLog}
use Rattle.dt_run.specs.declared.log.EditLine.{EditLine}
use Rattle.dt_run.specs.declared.log.EditLine.TheVariants.{Accepted}

-- edits that are applied together
abbrev pub Batch : Type 0
Batch = List Edit

-- the batches that these lines say were accepted
abbrev pub accepted : List Batch → List EditLine → List Batch
accepted [] lines = []
accepted (batch ∷ batches) [] = []
accepted (batch ∷ batches) (Accepted version ∷ lines) = batch ∷ accepted batches lines
accepted (batch ∷ batches) (_ ∷ lines) = accepted batches lines

-- the batches that the log says were accepted, in order
abbrev pub history_of : List Phase → List PhaseLog → List Batch
history_of [] logs = []
history_of (phase ∷ phases) [] = []
history_of (phase ∷ phases) (log ∷ logs) = accepted phase.edits log.edits ++ history_of phases logs

-- an accepted batch has the number of batches accepted up to and with it
abbrev pub AreNumberedFrom : ℕ → List EditLine → Type 0
AreNumberedFrom version [] = Unit {0}
AreNumberedFrom version (Accepted number ∷ lines) = (number ≡ version + 1) × AreNumberedFrom (version + 1) lines
AreNumberedFrom version (_ ∷ lines) = AreNumberedFrom version lines

-- Versions: a phase goes from the version before it, and to that plus the batches accepted in it; the last is told last.
abbrev pub HasVersionsFrom : ℕ → List Phase → List PhaseLog → ℕ → Type 0
HasVersionsFrom version [] [] last = last ≡ version
HasVersionsFrom version (phase ∷ phases) (log ∷ logs) last =
    (log.from ≡ version) × AreNumberedFrom version log.edits
    × (log.to ≡ version + length (accepted phase.edits log.edits)) × HasVersionsFrom log.to phases logs last
HasVersionsFrom version _ _ last = ⊥
