-- What a run says of the script, of the source's or a generated one, and of what the sink took.
use Rattle.std.specs.Prelude.{◌≡◌, ℕ, ◌<◌, ◌≤◌, ◌⊎◌, List, length, Option, Some, IsSomeAnd}
use Rattle.std.specs.Io.KnownBytes.{Appends}
use Rattle.dt_outside.specs.Putting.{AppendsPrefix}
use Rattle.dt_script.specs.Script.{Script}
use Rattle.dt_script.specs.ScriptOf.{IsScriptOf, IsFaultOf}
use Rattle.dt_script.specs.declared.limits.TheConstants.{SCRIPT_BYTES}
use Rattle.dt_script.specs.declared.script_fault.ScriptFault.{ScriptFault}
use Rattle.dt_words.specs.declared.limits.TheConstants.{VERSIONS}
use Rattle.dt_run.specs.Log.{Log}
use Rattle.dt_run.specs.Outcome.{Outcome}
use Rattle.dt_run.specs.Summary.{TookSummary, TookSummaryPrefix}
use Rattle.dt_run.specs.Text.{text_of}

-- The bytes are a script for so many readers, the log is an outcome of it, and the text is its text.
pub record IsRunOf (readers : ℕ) (bytes : List ℕ) (log : Log) (text : List ℕ) : Type 0 where
  pub script : Script
  pub read : IsScriptOf readers bytes script
  pub outcome : Outcome script VERSIONS log
  pub printed : text_of script.names log ≡ Some text

-- Done: the log that is handed back is that of a run of the bytes, and the sink took its text.
abbrev pub IsDone : ℕ → List ℕ → Option (List ℕ) → Option (List ℕ) → Option Log → Type 0
IsDone readers bytes before after handed =
    IsSomeAnd handed (λ log. (text : List ℕ) × IsRunOf readers bytes log text × Appends before after text)

-- Cut short: as done, but that the sink took a prefix of the text.
abbrev pub IsCutShort : ℕ → List ℕ → Option (List ℕ) → Option (List ℕ) → Option Log → Type 0
IsCutShort readers bytes before after handed =
    IsSomeAnd handed (λ log. (text : List ℕ) × IsRunOf readers bytes log text × AppendsPrefix before after text)

-- the bytes are a script, and no more than a script may have
abbrev pub IsScript : ℕ → List ℕ → Type 0
IsScript readers bytes = (length bytes ≤ SCRIPT_BYTES) × ((script : Script) × IsScriptOf readers bytes script)

-- the bytes are no script: there are too many, or they have a fault
abbrev pub IsNoScript : ℕ → List ℕ → Type 0
IsNoScript readers bytes = (SCRIPT_BYTES < length bytes) ⊎ ((fault : ScriptFault) × IsFaultOf readers bytes fault)

-- Summed: the log that is handed back is an outcome of the script, and the sink took its summary.
abbrev pub IsSummed : Script → Option (List ℕ) → Option (List ℕ) → Option Log → Type 0
IsSummed script before after handed =
    IsSomeAnd handed (λ log. Outcome script VERSIONS log × TookSummary script.names log before after)

-- Summed in part: as summed, but that the sink took a prefix of the summary.
abbrev pub IsSummedInPart : Script → Option (List ℕ) → Option (List ℕ) → Option Log → Type 0
IsSummedInPart script before after handed =
    IsSomeAnd handed (λ log. Outcome script VERSIONS log × TookSummaryPrefix script.names log before after)
