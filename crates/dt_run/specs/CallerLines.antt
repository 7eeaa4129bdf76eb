-- What a log says of each caller, through all phases.
use Rattle.std.specs.Prelude.{◌==◌, ℕ, not, if◌then◌else◌, List, [], ◌∷◌, ◌++◌, map}
use Rattle.std.specs.List.{filter, flat_map}
use Rattle.dt_script.specs.Script.{Part, Phase}
use Rattle.dt_script.specs.declared.line.CallerLine.{CallerLine}
use Rattle.dt_run.specs.Log.{PartLog, PhaseLog}
use Rattle.dt_run.specs.declared.log.CallLine.{CallLine}

-- a line of a caller: the versions before and after its phase, the line of the script, and what was logged of it
pub record CallerEntry : Type 0 where
  pub from : ℕ
  pub to : ℕ
  pub line : CallerLine
  pub logged : CallLine

-- the numbers, each once, where it stands first
abbrev pub first_of_each : List ℕ → List ℕ
first_of_each [] = []
first_of_each (number ∷ numbers) = number ∷ filter (λ other. not (other == number)) (first_of_each numbers)

-- the callers of a script, in order of first appearance; those without a line too
abbrev pub callers_of : List Phase → List ℕ
callers_of phases = first_of_each (flat_map (λ phase. map (λ part. part.caller) phase.callers) phases)

-- the entries of lines in a phase from a version to a version
abbrev pub line_entries : ℕ → ℕ → List CallerLine → List CallLine → List CallerEntry
line_entries from to [] logged = []
line_entries from to (line ∷ lines) [] = []
line_entries from to (line ∷ lines) (logged ∷ rest) =
    record { from = from; to = to; line = line; logged = logged } ∷ line_entries from to lines rest

-- the entries of a caller in such a phase
abbrev pub part_entries : ℕ → ℕ → ℕ → List Part → List PartLog → List CallerEntry
part_entries caller from to [] logs = []
part_entries caller from to (part ∷ parts) [] = []
part_entries caller from to (part ∷ parts) (log ∷ logs) =
    (if part.caller == caller then line_entries from to part.lines log.lines else [])
    ++ part_entries caller from to parts logs

-- the entries of a caller through all phases, in order
abbrev pub entries_of : ℕ → List Phase → List PhaseLog → List CallerEntry
entries_of caller [] logs = []
entries_of caller (phase ∷ phases) [] = []
entries_of caller (phase ∷ phases) (log ∷ logs) =
    part_entries caller log.from log.to phase.callers log.callers ++ entries_of caller phases logs
