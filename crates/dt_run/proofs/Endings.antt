-- What follows of how a run ends.
use Rattle.std.proofs.Common.{◌≡◌, ◌≤◌, ℕ, ◌+◌, List, [], length, Option, Some, None, Err, ◌⊎◌, inl, inr, refl, sym, ap, subst, ◌∙◌, arith, length-append}
use Rattle.std.specs.Prelude.{IfSome, option_and_then}
use Rattle.dt_outside.specs.Faults.{Rose, one_fault_more}
use Rattle.dt_outside.specs.Losing.{Loses, LosesAtMost}
use Rattle.dt_outside.proofs.OverCalls.{one_fault_more_is_rise}
use Rattle.dt_script.specs.OneAnswer.{ScriptsHaveNoFault}
use Rattle.dt_script.specs.ReadScript.{WasRead, IsFaultOfSource, IsFaultCounted}
use Rattle.dt_script.specs.Script as shown
use Rattle.dt_script.specs.ScriptOf.{IsScriptOf, IsFaultOf}
use Rattle.dt_script.specs.declared.limits.TheConstants.{SCRIPT_BYTES}
use Rattle.dt_script.specs.declared.script_fault.ScriptFault.{ScriptFault}
use Rattle.dt_script.specs.declared.script_fault.ScriptFault.TheVariants as fault
use Rattle.dt_words.specs.declared.limits.TheConstants.{VERSIONS}
use Rattle.dt_words.specs.CommandOf.{command_of}
use Rattle.dt_words.specs.Limits.{LimitNumbers}
use Rattle.dt_words.specs.declared.command.Command.{Command}
use Rattle.dt_words.specs.declared.command.Command.TheVariants.{Run}
use Rattle.dt_words.specs.declared.command.Table.{Table}
use Rattle.dt_run.specs.Ending.{Outside, outside, readers_in, readers_of, status_of, EndsWith, Ending, Performed}
use Rattle.dt_run.specs.FaultText.{fault_text}
use Rattle.dt_run.specs.Log.{Log}
use Rattle.dt_run.specs.Outcome.{Outcome}
use Rattle.dt_run.specs.Printed.{TookText, TookPrefix}
use Rattle.dt_run.specs.Run.{IsRunOf, IsDone, IsCutShort, IsScript, IsNoScript}
use Rattle.dt_run.specs.declared.status.Status.{Status}
use Rattle.dt_run.specs.declared.status.Status.TheVariants.{Done, Usage, Script, ReadFault, WriteFault, NoMemory}

-- ---- how a script that was read ends

-- the log of an outcome was printed whole
pub printed_whole : (readers : ℕ) (bytes : List ℕ) (script : shown.Script) (log : Log) (before after : Option (List ℕ)) (faults faults' : ℕ)
    → Outcome script VERSIONS log → IsScriptOf readers bytes script → TookText script.names log before after → faults' ≡ faults
    → Performed readers bytes Done (Some log) (outside None 0 before faults) (outside None 0 after faults')
printed_whole readers bytes script log before after faults faults' outcome is (text, printed, taken) calm =
    (calm, (text, record { script = script; read = is; outcome = outcome; printed = printed }, taken))

-- or cut short
pub printed_part : (readers : ℕ) (bytes : List ℕ) (script : shown.Script) (log : Log) (before after : Option (List ℕ)) (faults faults' : ℕ)
    → Outcome script VERSIONS log → IsScriptOf readers bytes script → TookPrefix script.names log before after → faults' ≡ one_fault_more faults
    → Performed readers bytes WriteFault (Some log) (outside None 0 before faults) (outside None 0 after faults')
printed_part readers bytes script log before after faults faults' outcome is (text, printed, taken) once =
    (once, (text, record { script = script; read = is; outcome = outcome; printed = printed }, taken))

-- what was read, and then performed
pub ends_performed : (readers : ℕ) (bytes : List ℕ) (status : Status) (handed : Option Log) (old new : Outside) → new.read_faults ≡ old.read_faults
    → WasRead old.left new.left bytes
    → Performed readers bytes status handed (outside None 0 old.taken old.put_faults) (outside None 0 new.taken new.put_faults)
    → Ending readers status handed old new
ends_performed readers bytes Done handed old new calm read performed = (calm, performed.0, (bytes, read, performed.1))
ends_performed readers bytes WriteFault handed old new calm read performed = (calm, performed.0, (bytes, read, performed.1))
ends_performed readers bytes NoMemory handed old new calm read performed = (calm, performed)
ends_performed readers bytes Usage handed old new calm read performed = absurd performed
ends_performed readers bytes Script handed old new calm read performed = absurd performed
ends_performed readers bytes ReadFault handed old new calm read performed = absurd performed

-- a fault that was told
pub ends_fault : (readers : ℕ) (told : ScriptFault) (handed : Option Log) (old new : Outside) → IsFaultCounted (Err told) old.read_faults new.read_faults
    → IsFaultOfSource readers old.left new.left told → EndsWith handed old new (fault_text told)
    → Ending readers (status_of told) handed old new
ends_fault readers fault.ReadFault handed old new counted is ends = (counted, is, ends)
ends_fault readers fault.NoMemory handed old new counted is ends = (counted, ends)
ends_fault readers fault.TooLong handed old new counted is ends = (counted, (fault.TooLong, refl, is, ends))
ends_fault readers fault.NoHeader handed old new counted is ends = (counted, (fault.NoHeader, refl, is, ends))
ends_fault readers (fault.Malformed line) handed old new counted is ends = (counted, (fault.Malformed line, refl, is, ends))
ends_fault readers (fault.NamesFull line) handed old new counted is ends = (counted, (fault.NamesFull line, refl, is, ends))
ends_fault readers fault.NoEnd handed old new counted is ends = (counted, (fault.NoEnd, refl, is, ends))

-- ---- how a run of the source's script ends

-- a count with a fault more rose
rose_by_one : (old new : ℕ) → new ≡ one_fault_more old → Rose old new
rose_by_one old new more = subst (λ n. Rose old n) (sym more) (one_fault_more_is_rise old)

-- where the bytes are told, they are what was read
pub read_told : (left rest : Option (List ℕ)) (bytes read : List ℕ) → left ≡ Some bytes → WasRead left rest read → read ≡ bytes
read_told left rest bytes read told was = rw told at was.whole

module _ (scripts_have_no_fault : ScriptsHaveNoFault) where
  -- bytes that were run are a script
  run_is_script : (readers : ℕ) (bytes text : List ℕ) (log : Log) → length bytes ≤ SCRIPT_BYTES → IsRunOf readers bytes log text → IsNoScript readers bytes → ⊥
  run_is_script readers bytes text log short run (inl long) = omega (arith, short, long)
  run_is_script readers bytes text log short run (inr (told, is)) = scripts_have_no_fault readers bytes run.script told run.read is

  done_is_script : (readers : ℕ) (bytes : List ℕ) (before after : Option (List ℕ)) (handed : Option Log) → length bytes ≤ SCRIPT_BYTES
      → IsDone readers bytes before after handed → IsNoScript readers bytes → ⊥
  done_is_script readers bytes before after None short done none = absurd done
  done_is_script readers bytes before after (Some log) short done none = run_is_script readers bytes done.0 log short done.1 none

  cut_is_script : (readers : ℕ) (bytes : List ℕ) (before after : Option (List ℕ)) (handed : Option Log) → length bytes ≤ SCRIPT_BYTES
      → IsCutShort readers bytes before after handed → IsNoScript readers bytes → ⊥
  cut_is_script readers bytes before after None short done none = absurd done
  cut_is_script readers bytes before after (Some log) short done none = run_is_script readers bytes done.0 log short done.1 none

  -- bytes that are no script are found
  script_found : (readers : ℕ) (status : Status) (handed : Option Log) (bytes : List ℕ) (old new : Outside) → old.left ≡ Some bytes
      → Ending readers status handed old new → (Rose old.read_faults new.read_faults → ⊥)
      → IsNoScript readers bytes → (status ≡ Script) ⊎ (status ≡ NoMemory)
  script_found readers Done handed bytes old new told (calm, stood, (read, was, done)) quiet none =
      absurd (done_is_script readers read old.taken new.taken handed was.short done (subst (IsNoScript readers) (sym (read_told old.left new.left bytes read told was)) none))
  script_found readers Usage handed bytes old new told e quiet none = absurd e
  script_found readers Script handed bytes old new told e quiet none = inl refl
  script_found readers ReadFault handed bytes old new told e quiet none = absurd (quiet (rose_by_one old.read_faults new.read_faults e.0))
  script_found readers WriteFault handed bytes old new told (calm, once, (read, was, done)) quiet none =
      absurd (cut_is_script readers read old.taken new.taken handed was.short done (subst (IsNoScript readers) (sym (read_told old.left new.left bytes read told was)) none))
  script_found readers NoMemory handed bytes old new told e quiet none = inr refl

  -- a source that lost so many bytes had as many
  loses_long : (count : ℕ) (left rest : Option (List ℕ)) (bytes : List ℕ) → left ≡ Some bytes → Loses count left rest → count ≤ length bytes
  loses_long count None rest bytes told lost = absurd (cc)
  loses_long count (Some own) None bytes told lost = absurd lost
  loses_long count (Some own) (Some left) bytes told (lost, many, split) =
      let same : own ≡ bytes = inside told in
      omega (arith, many, ap length split, length-append lost left, ap length same) where
        inside : Some own ≡ Some bytes → own ≡ bytes
        inside told = cc

  -- a fault that was read isn't that of a script
  fault_read : (readers : ℕ) (told : ScriptFault) (bytes read : List ℕ) (old new : Outside) → old.left ≡ Some bytes → WasRead old.left new.left read
      → IsFaultOf readers read told → IsScript readers bytes → ⊥
  fault_read readers told bytes read old new left was holds script =
      scripts_have_no_fault readers bytes script.1.0 told script.1.1
      (subst (λ b. IsFaultOf readers b told) (read_told old.left new.left bytes read left was) holds)

  -- no fault of a script was told of one
  no_fault : (readers : ℕ) (told : ScriptFault) (bytes : List ℕ) (old new : Outside) → old.left ≡ Some bytes → status_of told ≡ Script
      → IsFaultOfSource readers old.left new.left told → IsScript readers bytes → ⊥
  no_fault readers fault.ReadFault bytes old new left is holds script = cc
  no_fault readers fault.NoMemory bytes old new left is holds script = cc
  no_fault readers fault.TooLong bytes old new left is holds script = omega (arith, script.0, loses_long (SCRIPT_BYTES + 1) old.left new.left bytes left holds)
  no_fault readers fault.NoHeader bytes old new left is (read, was, holds) script = fault_read readers fault.NoHeader bytes read old new left was holds script
  no_fault readers (fault.Malformed line) bytes old new left is (read, was, holds) script = fault_read readers (fault.Malformed line) bytes read old new left was holds script
  no_fault readers (fault.NamesFull line) bytes old new left is (read, was, holds) script = fault_read readers (fault.NamesFull line) bytes read old new left was holds script
  no_fault readers fault.NoEnd bytes old new left is (read, was, holds) script = fault_read readers fault.NoEnd bytes read old new left was holds script

  -- a script is performed
  script_done : (readers : ℕ) (status : Status) (handed : Option Log) (bytes : List ℕ) (old new : Outside) → old.left ≡ Some bytes
      → Ending readers status handed old new → (Rose old.read_faults new.read_faults → ⊥) → (Rose old.put_faults new.put_faults → ⊥)
      → IsScript readers bytes → (status ≡ Done) ⊎ (status ≡ NoMemory)
  script_done readers Done handed bytes old new told e quiet quiet_sink script = inl refl
  script_done readers Usage handed bytes old new told e quiet quiet_sink script = absurd e
  script_done readers Script handed bytes old new told (calm, (one, is, holds, ends)) quiet quiet_sink script = absurd (no_fault readers one bytes old new told is holds script)
  script_done readers ReadFault handed bytes old new told e quiet quiet_sink script = absurd (quiet (rose_by_one old.read_faults new.read_faults e.0))
  script_done readers WriteFault handed bytes old new told e quiet quiet_sink script = absurd (quiet_sink (rose_by_one old.put_faults new.put_faults e.1))
  script_done readers NoMemory handed bytes old new told e quiet quiet_sink script = inr refl

  -- where the bytes are told
  where_told : (left : Option (List ℕ)) (P : List ℕ → Type 0) → ((bytes : List ℕ) → left ≡ Some bytes → P bytes) → IfSome left P
  where_told None P p = tt
  where_told (Some bytes) P p = p bytes refl

  pub always_script : (readers : ℕ) (status : Status) (handed : Option Log) (old new : Outside) → Ending readers status handed old new
      → (Rose old.read_faults new.read_faults → ⊥)
      → IfSome old.left (λ bytes. IsNoScript readers bytes → (status ≡ Script) ⊎ (status ≡ NoMemory))
  always_script readers status handed old new e quiet =
      where_told old.left _ (λ bytes told. script_found readers status handed bytes old new told e quiet)

  pub always_done : (readers : ℕ) (status : Status) (handed : Option Log) (old new : Outside) → Ending readers status handed old new
      → (Rose old.read_faults new.read_faults → ⊥) → (Rose old.put_faults new.put_faults → ⊥)
      → IfSome old.left (λ bytes. IsScript readers bytes → (status ≡ Done) ⊎ (status ≡ NoMemory))
  always_done readers status handed old new e quiet quiet_sink =
      where_told old.left _ (λ bytes told. script_done readers status handed bytes old new told e quiet quiet_sink)

-- ---- for how many readers the words ask

-- words that write the command to run ask for its readers
pub words_ask : (words : List (List ℕ)) (table : Table) (limits : LimitNumbers) (readers : ℕ) → command_of words ≡ Some (Run table limits)
    → readers ≡ limits.reader_count → readers_of words ≡ Some readers
words_ask words table limits readers asked given = ap (option_and_then readers_in) asked ∙ ap Some (sym given)

-- and for no others
pub words_ask_once : (words : List (List ℕ)) (a b : ℕ) → readers_of words ≡ Some a → readers_of words ≡ Some b → a ≡ b
words_ask_once words a b first second = inside (sym first ∙ second) where
  inside : Some a ≡ Some b → a ≡ b
  inside same = cc

-- a source that wasn't read lost nothing
pub loses_none : (limit : ℕ) (left : Option (List ℕ)) → LosesAtMost limit left left
loses_none limit None = tt
loses_none limit (Some bytes) = ([], omega arith, refl)
