-- That the numbers in the edits and the calls of a script have names.
use Rattle.std.specs.Prelude.{ℕ, Bool, IsTrue, List, is_some, All}
use Rattle.std.specs.List.{list_all}
use Rattle.dt_definitions.specs.declared.edit.Edit.{Edit}
use Rattle.dt_definitions.specs.declared.edit.Edit.TheVariants as edit
use Rattle.dt_script.specs.LawfulBook.{LawfulBook}
use Rattle.dt_script.specs.NameBook.{NameBook}
use Rattle.dt_script.specs.Word.{Word, text_of_word}
use Rattle.dt_script.specs.Line.{words_of}
use Rattle.dt_script.specs.Script.{Script}
use Rattle.dt_script.specs.ScriptOf.{IsScriptOf}
use Rattle.dt_script.specs.declared.line.Line.{Line}
use Rattle.dt_script.specs.declared.line.Line.TheVariants.{AddClass, DropClass, Link, Unlink, AddSelector, DropSelector, Define, Undefine, Call, Pin, Unpin}
use Rattle.dt_script.specs.declared.line.CallerLine.{CallerLine}
use Rattle.dt_script.specs.declared.line.CallerLine.TheVariants as caller_line

-- whether a word stands for itself, or is the number of a name
abbrev pub has_text : NameBook → Word → Bool
has_text book word = is_some (text_of_word book word)

-- the line that an edit is
abbrev pub line_of : Edit → Line
line_of (edit.AddClass class parents) = AddClass class parents
line_of (edit.DropClass class) = DropClass class
line_of (edit.Link class parent) = Link class parent
line_of (edit.Unlink class parent) = Unlink class parent
line_of (edit.AddSelector selector arity) = AddSelector selector arity
line_of (edit.DropSelector selector) = DropSelector selector
line_of (edit.Define selector classes body) = Define selector classes body
line_of (edit.Undefine selector classes) = Undefine selector classes

-- whether each number in a line is that of a name
abbrev pub is_line_named : NameBook → Line → Bool
is_line_named book line = list_all (has_text book) (words_of line)

-- whether each number in an edit is that of a name
abbrev pub is_edit_named : NameBook → Edit → Bool
is_edit_named book edit = is_line_named book (line_of edit)

-- each number in the edits of a script is that of a name
abbrev pub HasNames : Script → Type 0
HasNames script = All (λ phase. All (All (λ edit. IsTrue (is_edit_named script.names edit))) phase.edits) script.phases

-- the line that a line of a caller is
abbrev pub line_of_call : CallerLine → Line
line_of_call (caller_line.Call query) = Call query
line_of_call caller_line.Pin = Pin
line_of_call caller_line.Unpin = Unpin

-- each number in the calls of a script is that of a name
abbrev pub HasNamedCalls : Script → Type 0
HasNamedCalls script =
    All (λ phase. All (λ part. All (λ line. IsTrue (is_line_named script.names (line_of_call line))) part.lines) phase.callers) script.phases

-- Each number in the edits of a script that was read is that of a name.
abbrev pub ReadHasNames : Type 0
ReadHasNames = (readers : ℕ) (bytes : List ℕ) (script : Script) → IsScriptOf readers bytes script → HasNames script

-- So is each number in its calls.
abbrev pub ReadHasNamedCalls : Type 0
ReadHasNamedCalls = (readers : ℕ) (bytes : List ℕ) (script : Script) → IsScriptOf readers bytes script → HasNamedCalls script

-- And no two names of its book are the same.
abbrev pub ReadHasLawfulBook : Type 0
ReadHasLawfulBook = (readers : ℕ) (bytes : List ℕ) (script : Script) → IsScriptOf readers bytes script → LawfulBook script.names
