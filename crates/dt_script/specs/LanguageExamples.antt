-- The whole language in worked examples: how each form of a line is spelled, which edit each is, and where edits stand.
use Rattle.std.specs.Prelude.{◌≡◌, List, [], ◌∷◌, map, codes, None, Some, true, false, refl}
use Rattle.std.specs.Fmt.{digits}
use Rattle.std.specs.List.{list_all, list_any}
use Rattle.dt_definitions.specs.declared.edit.Edit.{Edit}
use Rattle.dt_definitions.specs.declared.edit.Edit.TheVariants as edit
use Rattle.dt_script.specs.NameBook.{NameBook}
use Rattle.dt_script.specs.Place.{may_stand}
use Rattle.dt_script.specs.Script.{edit_of}
use Rattle.dt_script.specs.Named.{line_of, is_line_named, line_of_call}
use Rattle.dt_script.specs.Writing.{IsSpelling, line_text}
use Rattle.dt_script.specs.declared.line.CallerLine.TheVariants as caller_line
use Rattle.dt_script.specs.declared.line.Line.{Line}
use Rattle.dt_script.specs.declared.line.Line.TheVariants.{Header, AddClass, DropClass, Link, Unlink, AddSelector, DropSelector, Define, Undefine, Begin, Commit, Phase, Caller, Call, Pin, Unpin, End}

-- ---- how each form of a line is spelled

abbrev some_names : NameBook
some_names = record {
  classes = codes "A" ∷ codes "B" ∷ codes "C" ∷ [];
  selectors = codes "draw" ∷ codes "at:put:" ∷ [];
  bodies = codes "one" ∷ codes "two" ∷ [];
}

edit_lines : map (line_text some_names)
    (AddClass 0 [] ∷ AddClass 2 (1 ∷ 0 ∷ []) ∷ DropClass 1 ∷ Link 2 0 ∷ Unlink 1 2 ∷ AddSelector 1 3 ∷ DropSelector 0
    ∷ Define 1 (2 ∷ 0 ∷ 1 ∷ []) 0 ∷ Undefine 0 (1 ∷ []) ∷ [])
    ≡ codes "class A" ∷ codes "class C < B A" ∷ codes "drop B" ∷ codes "link C < A" ∷ codes "unlink B < C"
    ∷ codes "selector at:put: 3" ∷ codes "forget draw" ∷ codes "define at:put: C A B -> one" ∷ codes "undefine draw B" ∷ []
unfolding digits
edit_lines = refl

other_lines : map (line_text some_names)
    (Header ∷ Begin ∷ Commit ∷ Phase ∷ Caller 256 ∷ Call (record { selector = 1; classes = 2 ∷ 1 ∷ [] }) ∷ Pin ∷ Unpin ∷ End ∷ [])
    ≡ codes "dispatch 1" ∷ codes "begin" ∷ codes "commit" ∷ codes "phase" ∷ codes "caller 256" ∷ codes "call at:put: C B"
    ∷ codes "pin" ∷ codes "unpin" ∷ codes "end" ∷ []
unfolding digits
other_lines = refl

spelling_of_a_link : IsSpelling some_names (Link 2 0) (codes "link C < A")
spelling_of_a_link = (codes "link" ∷ codes "C" ∷ codes "<" ∷ codes "A" ∷ [], (refl, (refl, (refl, (refl, tt)))), refl)

-- whether its numbers have names
named : is_line_named some_names (Link 2 0) ≡ true
named = refl

no_fourth_class : is_line_named some_names (Link 2 3) ≡ false
no_fourth_class = refl

-- ---- which edit each is

abbrev lines_of_edits : List Line
lines_of_edits =
    AddClass 2 (1 ∷ 0 ∷ []) ∷ DropClass 3 ∷ Link 4 5 ∷ Unlink 6 7 ∷ AddSelector 8 3 ∷ DropSelector 9
    ∷ Define 10 (11 ∷ 12 ∷ []) 13 ∷ Undefine 14 (15 ∷ 16 ∷ []) ∷ []

abbrev all_edits : List Edit
all_edits =
    edit.AddClass 2 (1 ∷ 0 ∷ []) ∷ edit.DropClass 3 ∷ edit.Link 4 5 ∷ edit.Unlink 6 7 ∷ edit.AddSelector 8 3 ∷ edit.DropSelector 9
    ∷ edit.Define 10 (11 ∷ 12 ∷ []) 13 ∷ edit.Undefine 14 (15 ∷ 16 ∷ []) ∷ []

edits_of_lines : map edit_of lines_of_edits ≡ map Some all_edits
edits_of_lines = refl

lines_of_their_edits : map line_of all_edits ≡ lines_of_edits
lines_of_their_edits = refl

abbrev no_edits : List Line
no_edits = Header ∷ Begin ∷ Commit ∷ Phase ∷ Caller 1 ∷ Call (record { selector = 0; classes = 0 ∷ [] }) ∷ Pin ∷ Unpin ∷ End ∷ []

no_edit_of_another_line : map edit_of no_edits ≡ map (λ line. None) no_edits
no_edit_of_another_line = refl

-- and which line each of a caller is
lines_of_callers : map line_of_call (caller_line.Call (record { selector = 1; classes = 2 ∷ [] }) ∷ caller_line.Pin ∷ caller_line.Unpin ∷ [])
    ≡ Call (record { selector = 1; classes = 2 ∷ [] }) ∷ Pin ∷ Unpin ∷ []
lines_of_callers = refl

-- ---- where edits stand; the lines before them are given latest first

edits_at_the_beginning : list_all (may_stand 8 (Header ∷ [])) lines_of_edits ≡ true
edits_at_the_beginning = refl

edits_in_a_batch : list_all (may_stand 8 (DropClass 0 ∷ Begin ∷ Header ∷ [])) lines_of_edits ≡ true
edits_in_a_batch = refl

edits_after_a_batch : list_all (may_stand 8 (Commit ∷ Begin ∷ Header ∷ [])) lines_of_edits ≡ true
edits_after_a_batch = refl

no_edits_after_a_caller : list_any (may_stand 8 (Caller 1 ∷ Header ∷ [])) lines_of_edits ≡ false
no_edits_after_a_caller = refl
