-- The lines that tell how a run ended, other than by a log.
use Rattle.std.specs.Prelude.{ℕ, List, [], ◌∷◌, ◌++◌, codes, decimal}
use Rattle.dt_script.specs.declared.script_fault.ScriptFault.{ScriptFault}
use Rattle.dt_script.specs.declared.script_fault.ScriptFault.TheVariants.{ReadFault, TooLong, NoHeader, Malformed, NamesFull, NoEnd, NoMemory}

-- what is told where the words ask for no run
abbrev pub usage_text : List ℕ
usage_text = codes "usage: dispatch run --table sti|colour|row|mrd [--readers R] [--pages P] [--limit L]\n       dispatch gen --table sti|colour|row|mrd --number N --classes C --selectors S\n"

-- a text, a space, a number and a line feed
abbrev pub numbered_text : List ℕ → ℕ → List ℕ
numbered_text text number = (text ++ 32 ∷ decimal number) ++ 10 ∷ []

-- the line that tells a fault
abbrev pub fault_text : ScriptFault → List ℕ
fault_text ReadFault = codes "fault read\n"
fault_text TooLong = codes "fault too-long\n"
fault_text NoHeader = codes "fault no-header\n"
fault_text (Malformed line) = numbered_text (codes "fault malformed") line
fault_text (NamesFull line) = numbered_text (codes "fault names-full") line
fault_text NoEnd = codes "fault no-end\n"
fault_text NoMemory = codes "fault memory\n"
