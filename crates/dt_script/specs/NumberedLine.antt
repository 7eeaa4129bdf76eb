-- A line whose names got their numbers.
use Rattle.std.specs.Prelude.{◌≡◌, not, IsTrue, Result, Ok, Err}
use Rattle.dt_script.specs.NameBook.{NameBook, is_within_limits}
use Rattle.dt_script.specs.Written.{tokens_of, with_tokens, line_in}
use Rattle.dt_script.specs.declared.line.Line.{Line}
use Rattle.dt_script.specs.declared.written.Written.{Written}
use Rattle.dt_selectors.specs.declared.names.NameFault.{NameFault}
use Rattle.dt_selectors.specs.declared.names.NameFault.TheVariants.{NamesFull, NoMemory}

-- The book has the names of the line, and the line has their numbers in it; or the book with these names isn't within
-- its limits.
abbrev pub IsLineNumbered : NameBook → Written → Result Line NameFault → NameBook → Type 0
IsLineNumbered old w (Ok line) new = (new ≡ with_tokens old (tokens_of w)) × (line ≡ line_in new w)
IsLineNumbered old w (Err NamesFull) new = IsTrue (not (is_within_limits (with_tokens old (tokens_of w))))
IsLineNumbered old w (Err NoMemory) new = Unit {0}
