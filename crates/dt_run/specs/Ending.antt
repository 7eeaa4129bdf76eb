-- How a run ends: what each status says of the words, of the bytes that were read, of what the sink took, and of the log.
use Rattle.std.specs.Prelude.{◌≡◌, ℕ, List, Option, None, Some, ◌⊎◌, option_and_then}
use Rattle.dt_outside.specs.Faults.{one_fault_more}
use Rattle.dt_outside.specs.Losing.{LosesAtMost}
use Rattle.dt_outside.specs.Putting.{Told}
use Rattle.dt_script.specs.GeneratedLaws.{generated_script}
use Rattle.dt_script.specs.ReadScript.{WasRead, IsFaultOfSource}
use Rattle.dt_script.specs.Script as shown
use Rattle.dt_script.specs.declared.limits.TheConstants.{SCRIPT_BYTES}
use Rattle.dt_script.specs.declared.script_fault.ScriptFault.{ScriptFault}
use Rattle.dt_script.specs.declared.script_fault.ScriptFault.TheVariants as fault
use Rattle.dt_words.specs.CommandOf.{command_of}
use Rattle.dt_words.specs.declared.command.Command.{Command}
use Rattle.dt_words.specs.declared.command.Command.TheVariants.{Run, Gen}
use Rattle.dt_run.specs.FaultText.{usage_text, fault_text}
use Rattle.dt_run.specs.Log.{Log}
use Rattle.dt_run.specs.Run.{IsDone, IsCutShort, IsSummed, IsSummedInPart}
use Rattle.dt_run.specs.Status.{number_of}
use Rattle.dt_run.specs.declared.status.Status.{Status}
use Rattle.dt_run.specs.declared.status.Status.TheVariants.{Done, Usage, Script, ReadFault, WriteFault, NoMemory}

-- for how many readers a command runs the source's script; one that generates a script runs none
abbrev pub readers_in : Command → Option ℕ
readers_in (Run table limits) = Some limits.reader_count
readers_in (Gen table number classes selectors) = None

-- for how many readers the words ask that the source's script is run, if they do
abbrev pub readers_of : List (List ℕ) → Option ℕ
readers_of words = option_and_then readers_in (command_of words)

-- the status that a fault ends with
abbrev pub status_of : ScriptFault → Status
status_of fault.ReadFault = ReadFault
status_of fault.NoMemory = NoMemory
status_of _ = Script

-- what the source and the sink tell at one moment: the bytes that are left and those that were taken, where they tell
-- them, and how often each failed
pub record Outside : Type 0 where
  pub left : Option (List ℕ)
  pub read_faults : ℕ
  pub taken : Option (List ℕ)
  pub put_faults : ℕ

-- the same, given one by one
abbrev pub outside : Option (List ℕ) → ℕ → Option (List ℕ) → ℕ → Outside
outside left read_faults taken put_faults =
    record { left = left; read_faults = read_faults; taken = taken; put_faults = put_faults }

-- a text was told, at most one put of it failed, and no log is handed back
abbrev pub EndsWith : Option Log → Outside → Outside → List ℕ → Type 0
EndsWith handed old new text = (handed ≡ None)
    × ((new.put_faults ≡ old.put_faults) ⊎ (new.put_faults ≡ one_fault_more old.put_faults))
    × Told old.taken new.taken old.put_faults new.put_faults text

-- no read failed
abbrev pub NoReadFailed : Outside → Outside → Type 0
NoReadFailed old new = new.read_faults ≡ old.read_faults

-- what each status says of a run for so many readers
abbrev pub Ending : ℕ → Status → Option Log → Outside → Outside → Type 0
Ending readers Done handed old new = NoReadFailed old new × (new.put_faults ≡ old.put_faults)
    × ((bytes : List ℕ) × WasRead old.left new.left bytes × IsDone readers bytes old.taken new.taken handed)
Ending readers Usage handed old new = ⊥
Ending readers Script handed old new = NoReadFailed old new
    × ((told : ScriptFault) × (status_of told ≡ Script) × IsFaultOfSource readers old.left new.left told
    × EndsWith handed old new (fault_text told))
Ending readers ReadFault handed old new = (new.read_faults ≡ one_fault_more old.read_faults)
    × LosesAtMost SCRIPT_BYTES old.left new.left × EndsWith handed old new (fault_text fault.ReadFault)
Ending readers WriteFault handed old new = NoReadFailed old new × (new.put_faults ≡ one_fault_more old.put_faults)
    × ((bytes : List ℕ) × WasRead old.left new.left bytes × IsCutShort readers bytes old.taken new.taken handed)
Ending readers NoMemory handed old new = NoReadFailed old new × EndsWith handed old new (fault_text fault.NoMemory)

-- nothing was read
abbrev pub NothingRead : Outside → Outside → Type 0
NothingRead old new = (new.left ≡ old.left) × NoReadFailed old new

-- what each status says of a run that performs this script, and prints the summary of its log: nothing is read
abbrev pub SummedEnding : shown.Script → Status → Option Log → Outside → Outside → Type 0
SummedEnding script Done handed old new = NothingRead old new × (new.put_faults ≡ old.put_faults)
    × IsSummed script old.taken new.taken handed
SummedEnding script WriteFault handed old new = NothingRead old new × (new.put_faults ≡ one_fault_more old.put_faults)
    × IsSummedInPart script old.taken new.taken handed
SummedEnding script NoMemory handed old new = NothingRead old new × EndsWith handed old new (fault_text fault.NoMemory)
SummedEnding script _ handed old new = ⊥

-- what each status says where the words write no command
abbrev pub NoCommandEnding : Status → Option Log → Outside → Outside → Type 0
NoCommandEnding Usage handed old new = NothingRead old new × EndsWith handed old new usage_text
NoCommandEnding NoMemory handed old new = NothingRead old new × EndsWith handed old new (fault_text fault.NoMemory)
NoCommandEnding _ handed old new = ⊥

-- what each status says of a command
abbrev pub CommandEnding : Option Command → Status → Option Log → Outside → Outside → Type 0
CommandEnding None status handed old new = NoCommandEnding status handed old new
CommandEnding (Some (Run table limits)) status handed old new = Ending limits.reader_count status handed old new
CommandEnding (Some (Gen table number classes selectors)) status handed old new =
    SummedEnding (generated_script number classes selectors) status handed old new

-- what each status says of a run with these words
abbrev pub RunEnding : List (List ℕ) → Status → Option Log → Outside → Outside → Type 0
RunEnding words status handed old new = CommandEnding (command_of words) status handed old new

-- the words ask for a generated script
abbrev pub IsGeneration : Option Command → Type 0
IsGeneration (Some (Gen table number classes selectors)) = Unit {0}
IsGeneration _ = ⊥

-- the program's number: of a run that ended so, or memory was wanted while nothing had been done
abbrev pub EndsAs : List (List ℕ) → Type 0 → ℕ → Outside → Outside → Type 0
EndsAs words NothingDone number old new = (status : Status) × (number ≡ number_of status)
    × (((handed : Option Log) × RunEnding words status handed old new) ⊎ ((status ≡ NoMemory) × NothingDone))

-- how performing the script that the bytes are, and printing its log, ends
abbrev pub Performed : ℕ → List ℕ → Status → Option Log → Outside → Outside → Type 0
Performed readers bytes Done handed old new =
    (new.put_faults ≡ old.put_faults) × IsDone readers bytes old.taken new.taken handed
Performed readers bytes WriteFault handed old new =
    (new.put_faults ≡ one_fault_more old.put_faults) × IsCutShort readers bytes old.taken new.taken handed
Performed readers bytes NoMemory handed old new = EndsWith handed old new (fault_text fault.NoMemory)
Performed readers bytes _ handed old new = ⊥
