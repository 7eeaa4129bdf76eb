-- A script that is built line by line: what each line gives to it, and what it is with further lines.
use Rattle.std.specs.Prelude.{◌≡◌, ℕ, true, false, List, [], ◌∷◌, ◌++◌, length, map, Option, None, Some}
use Rattle.std.specs.List.{onto_first, slice_split}
use Rattle.dt_definitions.specs.declared.edit.Edit.{Edit}
use Rattle.dt_definitions.specs.declared.edit.Edit.TheVariants as edit
use Rattle.dt_script.specs.NameBook.{NameBook}
use Rattle.dt_script.specs.Script.{Script, Phase, Part, batches_from, parts_of, lines_of_caller, is_phase, phase_of}
use Rattle.dt_script.specs.declared.line.Line.{Line}
use Rattle.dt_script.specs.declared.line.Line.TheVariants as line
use Rattle.dt_script.specs.declared.line.CallerLine.{CallerLine}
use Rattle.dt_script.specs.declared.line.CallerLine.TheVariants as caller_line
use Rattle.dt_script.specs.declared.meaning.Meaning.{Meaning}
use Rattle.dt_script.specs.declared.meaning.Meaning.TheVariants as meaning
use Rattle.dt_script.specs.declared.batches_builder.BatchesBuilder.{BatchesBuilder}
use Rattle.dt_script.specs.declared.parts_builder.PartsBuilder.{PartsBuilder}
use Rattle.dt_script.specs.declared.script_builder.ScriptBuilder.{ScriptBuilder}

-- what a line gives
abbrev pub meaning_of : Line → Meaning
meaning_of line.Header = meaning.Nothing
meaning_of (line.AddClass class parents) = meaning.Edit (edit.AddClass class parents)
meaning_of (line.DropClass class) = meaning.Edit (edit.DropClass class)
meaning_of (line.Link class parent) = meaning.Edit (edit.Link class parent)
meaning_of (line.Unlink class parent) = meaning.Edit (edit.Unlink class parent)
meaning_of (line.AddSelector selector arity) = meaning.Edit (edit.AddSelector selector arity)
meaning_of (line.DropSelector selector) = meaning.Edit (edit.DropSelector selector)
meaning_of (line.Define selector classes body) = meaning.Edit (edit.Define selector classes body)
meaning_of (line.Undefine selector classes) = meaning.Edit (edit.Undefine selector classes)
meaning_of line.Begin = meaning.Begin
meaning_of line.Commit = meaning.Commit
meaning_of line.Phase = meaning.Phase
meaning_of (line.Caller caller) = meaning.Caller caller
meaning_of (line.Call query) = meaning.CallerLine (caller_line.Call query)
meaning_of line.Pin = meaning.CallerLine caller_line.Pin
meaning_of line.Unpin = meaning.CallerLine caller_line.Unpin
meaning_of line.End = meaning.Nothing

-- ---- batches

-- how many edits the open batch has
abbrev pub open_length : Option (List Edit) → ℕ
open_length None = 0
open_length (Some batch) = length batch

-- the batches are these
pub record HasBatches (builder : BatchesBuilder) (closed : List (List Edit)) (open_batch : Option (List Edit)) : Type 0 where
  pub closed_are : builder.closed.items ≡ closed
  pub current_is : builder.current ≡ open_batch

-- an edit was taken: last in the open batch, or as a batch of its own
abbrev pub TakesEditAt : Option (List Edit) → List (List Edit) → Edit → BatchesBuilder → Type 0
TakesEditAt None closed edit new = HasBatches new (closed ++ (edit ∷ []) ∷ []) None
TakesEditAt (Some batch) closed edit new = HasBatches new closed (Some (batch ++ edit ∷ []))

abbrev pub TakesEdit : BatchesBuilder → Edit → BatchesBuilder → Type 0
TakesEdit old edit new = TakesEditAt old.current old.closed.items edit new

-- a batch was opened, unless one was open
abbrev pub opened : Option (List Edit) → Option (List Edit)
opened None = Some []
opened (Some batch) = Some batch

-- the open batch, or one without edits
abbrev pub open_or_empty : Option (List Edit) → List Edit
open_or_empty None = []
open_or_empty (Some batch) = batch

-- edits in front of the first batch
abbrev pub onto_all : List Edit → List (List Edit) → List (List Edit)
onto_all [] batches = batches
onto_all (edit ∷ edits) batches = onto_first edit (onto_all edits batches)

-- the batches of further lines, with those edits of the open batch that are there
abbrev pub batches_on : Option (List Edit) → List Line → List (List Edit)
batches_on None more = batches_from false more
batches_on (Some batch) more = onto_all batch (batches_from true more)

-- the batches with those of further lines
abbrev pub batches_with : BatchesBuilder → List Line → List (List Edit)
batches_with builder more = builder.closed.items ++ batches_on builder.current more

-- ---- callers

-- the callers are these
pub record HasParts (builder : PartsBuilder) (closed : List Part) (open_part : Option Part) : Type 0 where
  pub closed_are : builder.closed.items ≡ closed
  pub current_is : builder.current ≡ open_part

-- the callers with the one whose lines may follow
abbrev pub closed_parts : Option Part → List Part → List Part
closed_parts None closed = closed
closed_parts (Some part) closed = closed ++ part ∷ []

-- a caller's line was taken
abbrev pub with_line : Option Part → CallerLine → Option Part
with_line None line = None
with_line (Some part) line = Some (record { caller = part.caller; lines = part.lines ++ line ∷ [] })

-- the callers of further lines, with those lines of the caller before them that are there
abbrev pub parts_on : Option Part → List Line → List Part
parts_on None more = parts_of more
parts_on (Some part) more = record { caller = part.caller; lines = part.lines ++ lines_of_caller more } ∷ parts_of more

-- the callers with those of further lines
abbrev pub parts_with : PartsBuilder → List Line → List Part
parts_with builder more = builder.closed.items ++ parts_on builder.current more

-- ---- the script

-- the phase that has not ended, with further lines of it
abbrev pub phase_with : ScriptBuilder → List Line → Phase
phase_with builder more =
    record { edits = batches_with builder.batches more; callers = parts_with builder.parts more }

-- the phases of parts, the first by a function of its own
abbrev pub phases_of : (List Line → Phase) → List (List Line) → List Phase
phases_of first [] = []
phases_of first (part ∷ parts) = first part ∷ map phase_of parts

-- the phases with those of further lines
abbrev pub phases_with : ScriptBuilder → List Line → List Phase
phases_with builder more = builder.phases.items ++ phases_of (phase_with builder) (slice_split is_phase more)

-- one more line was taken: with further lines, the phases are as those with that line and them
pub record Takes (old : ScriptBuilder) (line : Line) (new : ScriptBuilder) : Type 0 where
  pub same : (more : List Line) → phases_with new more ≡ phases_with old (line ∷ more)

-- these lines were taken: with further lines, the phases are those of all
pub record Holds (builder : ScriptBuilder) (lines : List Line) : Type 0 where
  pub same : (more : List Line) → phases_with builder more ≡ map phase_of (slice_split is_phase (lines ++ more))

-- the script of the phases so far
abbrev pub script_in : NameBook → ScriptBuilder → Script
script_in names builder = record { names = names; phases = phases_with builder [] }
