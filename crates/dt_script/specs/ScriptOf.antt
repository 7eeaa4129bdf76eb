-- The script that the bytes of a text are, for a number of readers, or the first fault in them.
use Rattle.std.specs.Prelude.{◌≡◌, ℕ, ◌+◌, not, IsTrue, List, [], ◌∷◌, codes, reverse, take, slice_get, Some, ◌⊎◌}
use Rattle.dt_script.specs.NameBook.{NameBook, empty_book, is_within_limits}
use Rattle.dt_script.specs.Line.{LineOf}
use Rattle.dt_script.specs.Lines.{lines_of, is_silent}
use Rattle.dt_script.specs.Place.{may_stand, has_ended}
use Rattle.dt_script.specs.Script.{Script, script_of}
use Rattle.dt_script.specs.declared.line.Line.{Line}
use Rattle.dt_script.specs.declared.line.Line.TheVariants.{Header}
use Rattle.dt_script.specs.declared.script_fault.ScriptFault.{ScriptFault}
use Rattle.dt_script.specs.declared.script_fault.ScriptFault.TheVariants.{ReadFault, TooLong, NoHeader, Malformed, NamesFull, NoEnd, NoMemory}

-- A line that means something was read after the lines `past`: it may stand there, and its names fit.
pub record IsRead (readers : ℕ) (bytes : List ℕ) (before : NameBook) (past : List Line) (line : Line) (after : NameBook) : Type 0 where
  pub is_line : LineOf bytes before line after
  pub stands : IsTrue (may_stand readers past line)
  pub fits : IsTrue (is_within_limits after)

-- These lines after the first, given latest first, were read without a fault: they give these names, and these lines
-- with a meaning, latest first.
abbrev pub WereRead : ℕ → List (List ℕ) → NameBook → List Line → Type 0
WereRead readers [] book past = (book ≡ empty_book) × (past ≡ Header ∷ [])
WereRead readers (text ∷ texts) book past =
    (IsTrue (is_silent text) × WereRead readers texts book past)
    ⊎ ((before : NameBook) × (earlier : List Line) × (line : Line) × WereRead readers texts before earlier
    × IsRead readers text before earlier line book × IsTrue (not (is_silent text)) × (past ≡ line ∷ earlier))

-- A line is malformed where it means something, and no line that may stand after the lines `past` has its bytes.
pub record IsMalformed (readers : ℕ) (bytes : List ℕ) (before : NameBook) (past : List Line) : Type 0 where
  pub means : IsTrue (not (is_silent bytes))
  pub none : (line : Line) (after : NameBook) → LineOf bytes before line after → IsTrue (may_stand readers past line) → ⊥

-- The names are full at a line that may stand, but whose new names are more than there may be.
pub record IsFull (readers : ℕ) (bytes : List ℕ) (before : NameBook) (past : List Line) : Type 0 where
  pub line : Line
  pub after : NameBook
  pub is_line : LineOf bytes before line after
  pub stands : IsTrue (may_stand readers past line)
  pub full : IsTrue (not (is_within_limits after))

-- A text has its header and further lines.
abbrev pub HasHeader : List ℕ → List (List ℕ) → Type 0
HasHeader bytes texts = lines_of bytes ≡ codes "dispatch 1" ∷ texts

-- The line of this number, which counts from 1, has this fault, and no line before it has any.
abbrev pub IsFirstFaultAt : (NameBook → List Line → List ℕ → Type 0) → ℕ → List ℕ → ℕ → Type 0
IsFirstFaultAt fault readers bytes number =
    (texts : List (List ℕ)) × (place : ℕ) × (text : List ℕ) × (book : NameBook) × (past : List Line)
    × HasHeader bytes texts × (number ≡ place + 2) × (slice_get texts place ≡ Some text)
    × WereRead readers (reverse (take place texts)) book past × fault book past text

-- All lines were read, the last with a meaning is `end`, and the script is that of the lines after the header.
pub record IsScriptOf (readers : ℕ) (bytes : List ℕ) (script : Script) : Type 0 where
  pub texts : List (List ℕ)
  pub book : NameBook
  pub past : List Line
  pub header : HasHeader bytes texts
  pub were_read : WereRead readers (reverse texts) book past
  pub ended : IsTrue (has_ended past)
  pub built : script ≡ script_of book (reverse past)

-- All lines were read, and the last with a meaning isn't `end`.
pub record HasNoEnd (readers : ℕ) (bytes : List ℕ) : Type 0 where
  pub texts : List (List ℕ)
  pub book : NameBook
  pub past : List Line
  pub header : HasHeader bytes texts
  pub were_read : WereRead readers (reverse texts) book past
  pub goes_on : IsTrue (not (has_ended past))

-- The fault that is told of the bytes; those of reading and of memory aren't theirs.
abbrev pub IsFaultOf : ℕ → List ℕ → ScriptFault → Type 0
IsFaultOf readers bytes NoHeader = (texts : List (List ℕ)) → HasHeader bytes texts → ⊥
IsFaultOf readers bytes (Malformed number) =
    IsFirstFaultAt (λ book past text. IsMalformed readers text book past) readers bytes number
IsFaultOf readers bytes (NamesFull number) =
    IsFirstFaultAt (λ book past text. IsFull readers text book past) readers bytes number
IsFaultOf readers bytes NoEnd = HasNoEnd readers bytes
IsFaultOf readers bytes ReadFault = ⊥
IsFaultOf readers bytes TooLong = ⊥
IsFaultOf readers bytes NoMemory = ⊥
