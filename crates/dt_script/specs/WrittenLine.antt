-- The line that some bytes are, with its names as texts.
use Rattle.std.specs.Prelude.{◌≡◌, ℕ, IsTrue, List, Option, Some, None}
use Rattle.std.specs.List.{list_all}
use Rattle.dt_selectors.specs.Names.{is_name}
use Rattle.dt_script.specs.NameBook.{NameBook}
use Rattle.dt_script.specs.Cut.{parts_at}
use Rattle.dt_script.specs.Line.{LineOf}
use Rattle.dt_script.specs.Written.{texts_of, is_written_in_range}
use Rattle.dt_script.specs.declared.line.Line.{Line}
use Rattle.dt_script.specs.declared.written.Written.{Written}

-- the line with these bytes, and `None` where they are no line under any names
abbrev pub IsWrittenLine : List ℕ → Option Written → Type 0
IsWrittenLine bytes (Some w) =
    (texts_of w ≡ parts_at 32 bytes) × IsTrue (list_all is_name (parts_at 32 bytes)) × IsTrue (is_written_in_range w)
IsWrittenLine bytes None = (line : Line) (before after : NameBook) → LineOf bytes before line after → ⊥
