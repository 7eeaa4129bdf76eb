-- A script that is being read: what is kept of the lines so far, and the fault of a line.
use Rattle.std.specs.Prelude.{◌≡◌, ℕ, ◌+◌, ◌≤◌, IsTrue, List, ◌∷◌, length, reverse}
use Rattle.dt_script.specs.NameBook.{NameBook, is_within_limits}
use Rattle.dt_script.specs.Place.{has_ended, StandsAfter}
use Rattle.dt_script.specs.ScriptOf.{WereRead, IsMalformed, IsFull}
use Rattle.dt_script.specs.Written.{tokens_of, with_tokens, line_in}
use Rattle.dt_script.specs.ScriptBuilder.{open_length, Takes, Holds}
use Rattle.dt_script.specs.declared.line.Line.{Line}
use Rattle.dt_script.specs.declared.written.Written.{Written}
use Rattle.dt_script.specs.declared.reading.Reading.{Reading}
use Rattle.dt_script.specs.declared.script_fault.ScriptFault.{ScriptFault}
use Rattle.dt_script.specs.declared.script_fault.ScriptFault.TheVariants.{Malformed, NamesFull, NoMemory}

-- These lines after the header, given latest first, were read without a fault, and the lines with a meaning are `past`.
pub record HasRead (readers : ℕ) (reading : Reading) (texts : List (List ℕ)) (past : List Line) : Type 0 where
  pub were_read : WereRead readers texts reading.names past
  pub places : StandsAfter reading.places past
  pub ended : reading.ended ≡ has_ended past
  pub holds : Holds reading.builder (reverse past)
  pub few : open_length reading.builder.batches.current ≤ length texts

-- A line that may stand was taken, and its names fit.
pub record TakesWritten (old : Reading) (w : Written) (new : Reading) : Type 0 where
  pub names : new.names ≡ with_tokens old.names (tokens_of w)
  pub fits : IsTrue (is_within_limits new.names)
  pub places : (past : List Line) (book : NameBook) → StandsAfter old.places past
      → StandsAfter new.places (line_in book w ∷ past)
  pub ended : (past : List Line) (book : NameBook) → new.ended ≡ has_ended (line_in book w ∷ past)
  pub taken : Takes old.builder (line_in new.names w) new.builder
  pub grown : open_length new.builder.batches.current ≤ open_length old.builder.batches.current + 1

-- The fault of the line of this number, after these names and lines.
abbrev pub IsFaultAt : ℕ → List ℕ → NameBook → List Line → ℕ → ScriptFault → Type 0
IsFaultAt readers text book past number (Malformed at) = (at ≡ number) × IsMalformed readers text book past
IsFaultAt readers text book past number (NamesFull at) = (at ≡ number) × IsFull readers text book past
IsFaultAt readers text book past number NoMemory = Unit {0}
IsFaultAt readers text book past number _ = ⊥
