-- What is answered where bytes are a line.
use Rattle.std.specs.Prelude.{◌≡◌, not, IsTrue, Option, None, Some, Result, Ok, Err}
use Rattle.dt_script.specs.NameBook.{NameBook, is_within_limits}
use Rattle.dt_script.specs.declared.line.Line.{Line}
use Rattle.dt_script.specs.declared.line_read.LineFault.{LineFault}
use Rattle.dt_script.specs.declared.line_read.LineFault.TheVariants.{Malformed, NamesFull, NoMemory}

-- The line itself, and the book after it stands; or that there are too many names, where that book isn't within its
-- limits; or that no memory was found.
abbrev pub IsAnswerTo : Line → NameBook → Result (Option Line) LineFault → NameBook → Type 0
IsAnswerTo line after (Ok (Some read)) new = (read ≡ line) × (new ≡ after)
IsAnswerTo line after (Ok None) new = ⊥
IsAnswerTo line after (Err Malformed) new = ⊥
IsAnswerTo line after (Err NamesFull) new = IsTrue (not (is_within_limits after))
IsAnswerTo line after (Err NoMemory) new = Unit {0}
