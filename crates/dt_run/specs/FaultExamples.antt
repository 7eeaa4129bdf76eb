-- What each fault ends with, and what is told of it; and the number of each ending.
use Rattle.std.specs.Prelude.{◌≡◌, List, [], ◌∷◌, map, codes, refl}
use Rattle.std.specs.Fmt.{digits}
use Rattle.dt_script.specs.declared.script_fault.ScriptFault.{ScriptFault}
use Rattle.dt_script.specs.declared.script_fault.ScriptFault.TheVariants as fault
use Rattle.dt_run.specs.Ending.{status_of}
use Rattle.dt_run.specs.FaultText.{fault_text}
use Rattle.dt_run.specs.Status.{number_of}
use Rattle.dt_run.specs.declared.status.Status.TheVariants.{Done, Usage, Script, ReadFault, WriteFault, NoMemory}

-- each fault, in the order in which they are sought
abbrev faults : List ScriptFault
faults =
    fault.ReadFault ∷ fault.TooLong ∷ fault.NoHeader ∷ fault.Malformed 12 ∷ fault.NamesFull 6151 ∷ fault.NoEnd ∷ fault.NoMemory ∷ []

statuses_of_faults : map status_of faults ≡ ReadFault ∷ Script ∷ Script ∷ Script ∷ Script ∷ Script ∷ NoMemory ∷ []
statuses_of_faults = refl

-- the line of a fault tells the line of the script, where it is about one
texts_of_faults : map fault_text faults
    ≡ codes "fault read\n" ∷ codes "fault too-long\n" ∷ codes "fault no-header\n" ∷ codes "fault malformed 12\n" ∷ codes "fault names-full 6151\n"
    ∷ codes "fault no-end\n" ∷ codes "fault memory\n" ∷ []
unfolding digits
texts_of_faults = refl

numbers_of_endings : map number_of (Done ∷ Usage ∷ Script ∷ ReadFault ∷ WriteFault ∷ NoMemory ∷ []) ≡ 0 ∷ 2 ∷ 3 ∷ 4 ∷ 5 ∷ 6 ∷ []
numbers_of_endings = refl
