-- A script: phases of batches and callers, from its lines in their order.
use Rattle.std.specs.Prelude.{ℕ, Bool, true, false, List, [], ◌∷◌, map, Option, None, Some}
use Rattle.std.specs.List.{cons_option, onto_first, slice_split}
use Rattle.dt_definitions.specs.declared.edit.Edit.{Edit}
use Rattle.dt_definitions.specs.declared.edit.Edit.TheVariants as edit
use Rattle.dt_script.specs.NameBook.{NameBook}
use Rattle.dt_script.specs.declared.line.Line.{Line}
use Rattle.dt_script.specs.declared.line.Line.TheVariants.{AddClass, DropClass, Link, Unlink, AddSelector, DropSelector, Define, Undefine, Begin, Commit, Caller, Call, Pin, Unpin}
use Rattle.dt_script.specs.declared.line.Line.TheVariants as line
use Rattle.dt_script.specs.declared.line.CallerLine.{CallerLine}
use Rattle.dt_script.specs.declared.line.CallerLine.TheVariants as caller_line

-- a caller in a phase, and its lines
pub record Part : Type 0 where
  pub caller : ℕ
  pub lines : List CallerLine

-- a phase: batches of edits, and callers
pub record Phase : Type 0 where
  pub edits : List (List Edit)
  pub callers : List Part

-- the names, and the phases
pub record Script : Type 0 where
  pub names : NameBook
  pub phases : List Phase

-- the edit that a line is, if it is one
abbrev pub edit_of : Line → Option Edit
edit_of (AddClass class parents) = Some (edit.AddClass class parents)
edit_of (DropClass class) = Some (edit.DropClass class)
edit_of (Link class parent) = Some (edit.Link class parent)
edit_of (Unlink class parent) = Some (edit.Unlink class parent)
edit_of (AddSelector selector arity) = Some (edit.AddSelector selector arity)
edit_of (DropSelector selector) = Some (edit.DropSelector selector)
edit_of (Define selector classes body) = Some (edit.Define selector classes body)
edit_of (Undefine selector classes) = Some (edit.Undefine selector classes)
edit_of _ = None

-- the batches with an edit put before them: in front of the open batch, or as a batch of its own
abbrev pub with_edit : Bool → Option Edit → List (List Edit) → List (List Edit)
with_edit inside None batches = batches
with_edit true (Some edit) batches = onto_first edit batches
with_edit false (Some edit) batches = (edit ∷ []) ∷ batches

-- the batches of some lines: of a batch that is open before them the rest, and an edit outside a batch by itself
abbrev pub batches_from : Bool → List Line → List (List Edit)
batches_from inside [] = []
batches_from inside (Begin ∷ lines) = batches_from true lines
batches_from inside (Commit ∷ lines) = [] ∷ batches_from false lines
batches_from inside (line ∷ lines) = with_edit inside (edit_of line) (batches_from inside lines)

-- the line of a caller that a line is, if it is one
abbrev pub caller_line_of : Line → Option CallerLine
caller_line_of (Call query) = Some (caller_line.Call query)
caller_line_of Pin = Some caller_line.Pin
caller_line_of Unpin = Some caller_line.Unpin
caller_line_of _ = None

-- the lines up to the next caller, as lines of the caller before them
abbrev pub lines_of_caller : List Line → List CallerLine
lines_of_caller [] = []
lines_of_caller (Caller caller ∷ lines) = []
lines_of_caller (line ∷ lines) = cons_option (caller_line_of line) (lines_of_caller lines)

-- the callers of some lines, each with its lines
abbrev pub parts_of : List Line → List Part
parts_of [] = []
parts_of (Caller caller ∷ lines) = record { caller = caller; lines = lines_of_caller lines } ∷ parts_of lines
parts_of (_ ∷ lines) = parts_of lines

-- whether a line begins the next phase
abbrev pub is_phase : Line → Bool
is_phase line.Phase = true
is_phase _ = false

-- the phase of some lines
abbrev pub phase_of : List Line → Phase
phase_of lines = record { edits = batches_from false lines; callers = parts_of lines }

-- the script of all its lines, with the names in them
abbrev pub script_of : NameBook → List Line → Script
script_of book lines = record { names = book; phases = map phase_of (slice_split is_phase lines) }
