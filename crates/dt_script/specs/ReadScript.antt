-- What reading a script from a source says of the bytes that the source had left, where it tells them.
use Rattle.std.specs.Prelude.{◌≡◌, ℕ, ◌+◌, ◌≤◌, List, [], length, Option, Some, IfSome, Result, Ok, Err, ◌⊎◌}
use Rattle.dt_outside.specs.Faults.{one_fault_more}
use Rattle.dt_outside.specs.Losing.{Loses, LosesAtMost}
use Rattle.dt_script.specs.Script as shown
use Rattle.dt_script.specs.ScriptOf.{IsScriptOf, IsFaultOf}
use Rattle.dt_script.specs.declared.limits.TheConstants.{SCRIPT_BYTES}
use Rattle.dt_script.specs.declared.script.Script.{Script}
use Rattle.dt_script.specs.declared.script_fault.ScriptFault.{ScriptFault}
use Rattle.dt_script.specs.declared.script_fault.ScriptFault.TheVariants.{ReadFault, TooLong, NoHeader, Malformed, NamesFull, NoEnd, NoMemory}

-- These bytes were read: they are all that the source had left, none is left now, and they are no more than a script's.
pub record WasRead (left rest : Option (List ℕ)) (bytes : List ℕ) : Type 0 where
  pub whole : IfSome left (λ told. bytes ≡ told)
  pub end : IfSome left (λ told. rest ≡ Some [])
  pub short : length bytes ≤ SCRIPT_BYTES

-- The bytes were read, and have this fault.
abbrev pub IsFaultRead : ℕ → Option (List ℕ) → Option (List ℕ) → ScriptFault → Type 0
IsFaultRead readers left rest fault = (bytes : List ℕ) × WasRead left rest bytes × IsFaultOf readers bytes fault

-- What a fault says: the source failed, or gave one byte more than a script may have; or the bytes were read, and have
-- the fault; or memory was wanted.
abbrev pub IsFaultOfSource : ℕ → Option (List ℕ) → Option (List ℕ) → ScriptFault → Type 0
IsFaultOfSource readers left rest ReadFault = LosesAtMost SCRIPT_BYTES left rest
IsFaultOfSource readers left rest TooLong = Loses (SCRIPT_BYTES + 1) left rest
IsFaultOfSource readers left rest NoHeader = IsFaultRead readers left rest NoHeader
IsFaultOfSource readers left rest (Malformed number) = IsFaultRead readers left rest (Malformed number)
IsFaultOfSource readers left rest (NamesFull number) = IsFaultRead readers left rest (NamesFull number)
IsFaultOfSource readers left rest NoEnd = IsFaultRead readers left rest NoEnd
IsFaultOfSource readers left rest NoMemory = LosesAtMost (SCRIPT_BYTES + 1) left rest

-- The source's count of faults is one more at a read fault, and else it stands as it was.
abbrev pub IsFaultCounted : Result Script ScriptFault → ℕ → ℕ → Type 0
IsFaultCounted (Err ReadFault) old new = new ≡ one_fault_more old
IsFaultCounted _ old new = new ≡ old

-- No other answer comes than these: the script that the bytes are, the fault that they have, or that no memory was found.
pub record IsAnswerFor (readers : ℕ) (bytes : List ℕ) (result : Result Script ScriptFault) : Type 0 where
  pub script : (script : shown.Script) → IsScriptOf readers bytes script
      → (result ≡ Ok script) ⊎ (result ≡ Err NoMemory)
  pub fault : (fault : ScriptFault) → IsFaultOf readers bytes fault → (result ≡ Err fault) ⊎ (result ≡ Err NoMemory)
