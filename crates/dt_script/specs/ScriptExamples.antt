-- Small worked examples of the lines of a text, and of the script of some lines.
use Rattle.std.specs.Prelude.{◌≡◌, ℕ, [], ◌∷◌, codes, true, false, refl}
use Rattle.dt_definitions.specs.declared.edit.Edit.TheVariants as edit
use Rattle.dt_scratch.specs.Query.{Query}
use Rattle.dt_script.specs.NameBook.{empty_book}
use Rattle.dt_script.specs.Lines.{lines_of, is_silent}
use Rattle.dt_script.specs.Script.{script_of}
use Rattle.dt_script.specs.declared.line.Line.TheVariants.{Header, DropClass, Begin, Commit, Phase, Caller, Call, Pin, Unpin, End}
use Rattle.dt_script.specs.declared.line.CallerLine.TheVariants as caller_line

-- ---- lines

no_line_of_no_byte : lines_of [] ≡ []
no_line_of_no_byte = refl

one_line_with_its_end : lines_of (codes "end\n") ≡ codes "end" ∷ []
one_line_with_its_end = refl

one_line_without_its_end : lines_of (codes "end") ≡ codes "end" ∷ []
one_line_without_its_end = refl

empty_lines_are_lines : lines_of (codes "a\n\n\nb") ≡ codes "a" ∷ [] ∷ [] ∷ codes "b" ∷ []
empty_lines_are_lines = refl

one_line_feed_is_an_empty_line : lines_of (codes "\n") ≡ [] ∷ []
one_line_feed_is_an_empty_line = refl

empty_means_nothing : is_silent [] ≡ true
empty_means_nothing = refl

comment_means_nothing : is_silent (codes "# end") ≡ true
comment_means_nothing = refl

space_before_it_is_no_comment : is_silent (codes " # end") ≡ false
space_before_it_is_no_comment = refl

-- ---- scripts

abbrev call_of : ℕ → Query
call_of class = record { selector = 0; classes = class ∷ [] }

-- one phase without edits and callers
empty_script : script_of empty_book (Header ∷ End ∷ []) ≡ record
    { names = empty_book; phases = record { edits = []; callers = [] } ∷ [] }
empty_script = refl

-- an edit outside a batch is a batch of one edit, and a batch may be empty
batches : script_of empty_book (Header ∷ DropClass 0 ∷ Begin ∷ DropClass 1 ∷ DropClass 2 ∷ Commit ∷ Begin ∷ Commit ∷ DropClass 3 ∷ End ∷ [])
    ≡ record {
      names = empty_book;
      phases = record {
        edits = (edit.DropClass 0 ∷ []) ∷ (edit.DropClass 1 ∷ edit.DropClass 2 ∷ []) ∷ [] ∷ (edit.DropClass 3 ∷ []) ∷ [];
        callers = [];
      } ∷ [];
    }
batches = refl

-- callers come in the order of their lines, each with its own, and a caller may have none
callers : script_of empty_book (Header ∷ Caller 2 ∷ Call (call_of 0) ∷ Pin ∷ Caller 1 ∷ Phase ∷ Caller 2 ∷ Unpin ∷ Call (call_of 1) ∷ End ∷ [])
    ≡ record {
      names = empty_book;
      phases = record {
        edits = [];
        callers = record { caller = 2; lines = caller_line.Call (call_of 0) ∷ caller_line.Pin ∷ [] } ∷ record { caller = 1; lines = [] } ∷ [];
      } ∷ record {
        edits = [];
        callers = record { caller = 2; lines = caller_line.Unpin ∷ caller_line.Call (call_of 1) ∷ [] } ∷ [];
      } ∷ [];
    }
callers = refl

-- the lines of a caller end where those of the next begin
next_caller : script_of empty_book (Header ∷ Caller 2 ∷ Pin ∷ Caller 1 ∷ Call (call_of 0) ∷ End ∷ [])
    ≡ record {
      names = empty_book;
      phases = record {
        edits = [];
        callers = record { caller = 2; lines = caller_line.Pin ∷ [] } ∷ record { caller = 1; lines = caller_line.Call (call_of 0) ∷ [] } ∷ [];
      } ∷ [];
    }
next_caller = refl
