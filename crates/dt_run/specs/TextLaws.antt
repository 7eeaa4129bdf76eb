-- Laws of the texts of logs.
use Rattle.std.specs.Prelude.{◌≡◌, ℕ, ◌^◌, Bool, true, nat_lt, IsTrue, is_some}
use Rattle.std.specs.List.{list_all}
use Rattle.dt_script.specs.NameBook.{NameBook}
use Rattle.dt_script.specs.LawfulBook.{LawfulBook}
use Rattle.dt_script.specs.Named.{HasNames}
use Rattle.dt_script.specs.Script.{Script}
use Rattle.dt_script.specs.Word.{Word, Number}
use Rattle.dt_run.specs.Log.{Log}
use Rattle.dt_run.specs.LogShape.{HasShape}
use Rattle.dt_run.specs.Outcome.{Outcome}
use Rattle.dt_run.specs.Text.{lines_of, text_of, is_named}
use Rattle.dt_run.specs.Shape.{SameShape}

-- whether the word's number, if it is one, is of 64 bits
abbrev pub is_word_in_range : Word → Bool
is_word_in_range (Number number) = nat_lt number (2 ^ 64)
is_word_in_range _ = true

-- whether the numbers in the log's lines are of 64 bits, as those of each log of the program are
abbrev pub is_in_range : Log → Bool
is_in_range log = list_all (list_all is_word_in_range) (lines_of log)

-- A log has a text exactly where each number in it has a name.
abbrev pub TextWhereNamed : Type 0
TextWhereNamed = (book : NameBook) (log : Log) → is_some (text_of book log) ≡ is_named book log

-- Logs of one script have one shape.
abbrev pub OneShapeOfScript : Type 0
OneShapeOfScript = (script : Script) (a b : Log) → HasShape script.phases a.phases → HasShape script.phases b.phases → SameShape a b

-- A log is determined by its text: two of one shape, whose numbers have names, are equal where their texts are.
abbrev pub DeterminedByText : Type 0
DeterminedByText = (book : NameBook) (a b : Log) → LawfulBook book → IsTrue (is_in_range a) → IsTrue (is_in_range b)
    → IsTrue (is_named book a) → IsTrue (is_named book b) → SameShape a b → text_of book a ≡ text_of book b → a ≡ b

-- In the log of an outcome every number has a name, where the numbers of the script's edits do.
abbrev pub OutcomeIsNamed : Type 0
OutcomeIsNamed = (script : Script) (limit : ℕ) (log : Log) → HasNames script → Outcome script limit log
    → IsTrue (is_named script.names log)
