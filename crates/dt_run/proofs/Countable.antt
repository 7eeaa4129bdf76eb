-- A log has no more lines than the lines of its script are, so it can be counted.
use Rattle.std.proofs.Common.{◌≡◌, ℕ, ◌+◌, ◌^◌, ◌<◌, ◌≤◌, Bool, true, false, List, [], ◌∷◌, ◌++◌, length, map, flat_map, Option, Some, None, refl, sym, ap, ◌∙◌, arith, length-append, cond}
use Rattle.std.specs.List.{AllZip, cons_option, onto_first, slice_split, sum_by}
use Rattle.std.proofs.lemmas.List.Sums.{sum_by-cons}
use Rattle.std.proofs.lemmas.Slice.Zip.{AllZip-long}
use Rattle.dt_definitions.specs.declared.edit.Edit.{Edit}
use Rattle.dt_script.specs.NameBook.{NameBook}
use Rattle.dt_script.specs.Script.{Part, Phase, batches_from, caller_line_of, edit_of, is_phase, lines_of_caller, parts_of, phase_of, script_of, with_edit}
use Rattle.dt_script.specs.declared.line.CallerLine.{CallerLine}
use Rattle.dt_script.specs.declared.line.Line.{Line}
use Rattle.dt_script.specs.declared.line.Line.TheVariants as line
use Rattle.dt_script.specs.GeneratedLines.{generated_lines}
use Rattle.dt_script.specs.GeneratedLaws.{GeneratedIsShort, generated_script}
use Rattle.dt_script.specs.GeneratedSize.{IsSize}
use Rattle.dt_script.specs.GeneratedText.{ended, generated_line, text_of_lines}
use Rattle.dt_script.specs.declared.limits.TheConstants.{SCRIPT_BYTES}
use Rattle.dt_words.specs.declared.limits.TheConstants.{VERSIONS}
use Rattle.dt_run.specs.Log.{Log, PhaseLog, PartLog}
use Rattle.dt_run.specs.LogShape.{HasShape, IsLogOfLine, IsLogOfPart, IsLogOfPhase}
use Rattle.dt_run.specs.Outcome.{Outcome}
use Rattle.dt_run.specs.Summary.{IsCountable}

-- ---- the lines of a script

-- an edit makes a batch more at most
onto_few : (edit : Edit) (batches : List (List Edit)) → length (onto_first edit batches) ≤ length batches + 1
onto_few edit [] = omega arith
onto_few edit (batch ∷ batches) = omega arith

edit_few : (inside : Bool) (edit : Option Edit) (batches : List (List Edit)) → length (with_edit inside edit batches) ≤ length batches + 1
edit_few true None batches = omega arith
edit_few false None batches = omega arith
edit_few true (Some edit) batches = onto_few edit batches
edit_few false (Some edit) batches = omega arith

-- there are no more batches than lines
batches_few : (inside : Bool) (lines : List Line) → length (batches_from inside lines) ≤ length lines
batches_few inside [] = omega arith
batches_few inside (line.Begin ∷ lines) = omega (arith, batches_few true lines)
batches_few inside (line.Commit ∷ lines) = omega (arith, batches_few false lines)
batches_few inside (line.Header ∷ lines) = omega (arith, batches_few inside lines, edit_few inside (edit_of line.Header) (batches_from inside lines))
batches_few inside (line.AddClass class parents ∷ lines) = omega (arith, batches_few inside lines, edit_few inside (edit_of (line.AddClass class parents)) (batches_from inside lines))
batches_few inside (line.DropClass class ∷ lines) = omega (arith, batches_few inside lines, edit_few inside (edit_of (line.DropClass class)) (batches_from inside lines))
batches_few inside (line.Link class parent ∷ lines) = omega (arith, batches_few inside lines, edit_few inside (edit_of (line.Link class parent)) (batches_from inside lines))
batches_few inside (line.Unlink class parent ∷ lines) = omega (arith, batches_few inside lines, edit_few inside (edit_of (line.Unlink class parent)) (batches_from inside lines))
batches_few inside (line.AddSelector selector arity ∷ lines) = omega (arith, batches_few inside lines, edit_few inside (edit_of (line.AddSelector selector arity)) (batches_from inside lines))
batches_few inside (line.DropSelector selector ∷ lines) = omega (arith, batches_few inside lines, edit_few inside (edit_of (line.DropSelector selector)) (batches_from inside lines))
batches_few inside (line.Define selector classes body ∷ lines) = omega (arith, batches_few inside lines, edit_few inside (edit_of (line.Define selector classes body)) (batches_from inside lines))
batches_few inside (line.Undefine selector classes ∷ lines) = omega (arith, batches_few inside lines, edit_few inside (edit_of (line.Undefine selector classes)) (batches_from inside lines))
batches_few inside (line.Phase ∷ lines) = omega (arith, batches_few inside lines, edit_few inside (edit_of line.Phase) (batches_from inside lines))
batches_few inside (line.Caller caller ∷ lines) = omega (arith, batches_few inside lines, edit_few inside (edit_of (line.Caller caller)) (batches_from inside lines))
batches_few inside (line.Call query ∷ lines) = omega (arith, batches_few inside lines, edit_few inside (edit_of (line.Call query)) (batches_from inside lines))
batches_few inside (line.Pin ∷ lines) = omega (arith, batches_few inside lines, edit_few inside (edit_of line.Pin) (batches_from inside lines))
batches_few inside (line.Unpin ∷ lines) = omega (arith, batches_few inside lines, edit_few inside (edit_of line.Unpin) (batches_from inside lines))
batches_few inside (line.End ∷ lines) = omega (arith, batches_few inside lines, edit_few inside (edit_of line.End) (batches_from inside lines))

-- how many lines callers have
abbrev lines_in : List Part → ℕ
lines_in parts = sum_by (λ part. length part.lines) parts

one_few : (one : Option CallerLine) (lines : List CallerLine) → length (cons_option one lines) ≤ length lines + 1
one_few None lines = omega arith
one_few (Some one) lines = omega arith

-- a line that begins no caller's
next_few : (one : Option CallerLine) (lines : List CallerLine) (parts : ℕ) (line : Line) (rest : List Line)
    → length lines + parts ≤ length rest → length (cons_option one lines) + parts ≤ length (line ∷ rest)
next_few one lines parts line rest few = omega (arith, one_few one lines, few)

-- the lines up to the next caller, and those of all callers after them, are no more than there are
parts_few : (lines : List Line) → length (lines_of_caller lines) + lines_in (parts_of lines) ≤ length lines
parts_few [] = omega arith
parts_few (line.Caller caller ∷ lines) =
    omega (arith, parts_few lines, sum_by-cons (λ (part : Part). length part.lines) (record { caller = caller; lines = lines_of_caller lines }) (parts_of lines))
parts_few (line.Begin ∷ lines) = next_few (caller_line_of line.Begin) (lines_of_caller lines) (lines_in (parts_of lines)) line.Begin lines (parts_few lines)
parts_few (line.Commit ∷ lines) = next_few (caller_line_of line.Commit) (lines_of_caller lines) (lines_in (parts_of lines)) line.Commit lines (parts_few lines)
parts_few (line.Header ∷ lines) = next_few (caller_line_of line.Header) (lines_of_caller lines) (lines_in (parts_of lines)) line.Header lines (parts_few lines)
parts_few (line.AddClass class parents ∷ lines) = next_few None (lines_of_caller lines) (lines_in (parts_of lines)) (line.AddClass class parents) lines (parts_few lines)
parts_few (line.DropClass class ∷ lines) = next_few None (lines_of_caller lines) (lines_in (parts_of lines)) (line.DropClass class) lines (parts_few lines)
parts_few (line.Link class parent ∷ lines) = next_few None (lines_of_caller lines) (lines_in (parts_of lines)) (line.Link class parent) lines (parts_few lines)
parts_few (line.Unlink class parent ∷ lines) = next_few None (lines_of_caller lines) (lines_in (parts_of lines)) (line.Unlink class parent) lines (parts_few lines)
parts_few (line.AddSelector selector arity ∷ lines) = next_few None (lines_of_caller lines) (lines_in (parts_of lines)) (line.AddSelector selector arity) lines (parts_few lines)
parts_few (line.DropSelector selector ∷ lines) = next_few None (lines_of_caller lines) (lines_in (parts_of lines)) (line.DropSelector selector) lines (parts_few lines)
parts_few (line.Define selector classes body ∷ lines) = next_few None (lines_of_caller lines) (lines_in (parts_of lines)) (line.Define selector classes body) lines (parts_few lines)
parts_few (line.Undefine selector classes ∷ lines) = next_few None (lines_of_caller lines) (lines_in (parts_of lines)) (line.Undefine selector classes) lines (parts_few lines)
parts_few (line.Phase ∷ lines) = next_few None (lines_of_caller lines) (lines_in (parts_of lines)) line.Phase lines (parts_few lines)
parts_few (line.Call query ∷ lines) = next_few (caller_line_of (line.Call query)) (lines_of_caller lines) (lines_in (parts_of lines)) (line.Call query) lines (parts_few lines)
parts_few (line.Pin ∷ lines) = next_few (caller_line_of line.Pin) (lines_of_caller lines) (lines_in (parts_of lines)) line.Pin lines (parts_few lines)
parts_few (line.Unpin ∷ lines) = next_few (caller_line_of line.Unpin) (lines_of_caller lines) (lines_in (parts_of lines)) line.Unpin lines (parts_few lines)
parts_few (line.End ∷ lines) = next_few None (lines_of_caller lines) (lines_in (parts_of lines)) line.End lines (parts_few lines)

-- the pieces between lines that begin phases have no more lines in all
first_longer : (line : Line) (pieces : List (List Line)) → sum_by length (onto_first line pieces) ≤ sum_by length pieces + 1
first_longer line [] = omega (arith, sum_by-cons length (line ∷ []) [])
first_longer line (piece ∷ pieces) = omega (arith, sum_by-cons length (line ∷ piece) pieces, sum_by-cons length piece pieces)

pieces_few : (lines : List Line) → sum_by length (slice_split is_phase lines) ≤ length lines
pieces_few [] = omega (arith, sum_by-cons (λ (piece : List Line). length piece) [] [])
pieces_few (one ∷ lines) = by (is_phase one) (pieces_few lines)
  where
    by : (b : Bool) → sum_by length (slice_split is_phase lines) ≤ length lines
        → sum_by length (cond b ([] ∷ slice_split is_phase lines) (onto_first one (slice_split is_phase lines))) ≤ length (one ∷ lines)
    by true few = omega (arith, few, sum_by-cons length [] (slice_split is_phase lines))
    by false few = omega (arith, few, first_longer one (slice_split is_phase lines))

-- ---- the lines of a log

logged_lines : (parts : List Part) (logs : List PartLog) → AllZip IsLogOfPart parts logs → sum_by (λ (part : PartLog). length part.lines) logs ≡ lines_in parts
logged_lines [] [] shape = refl
logged_lines [] (log ∷ logs) shape = absurd shape
logged_lines (part ∷ parts) [] shape = absurd shape
logged_lines (part ∷ parts) (log ∷ logs) ((same, lines), shape) =
    omega (
      arith,
      AllZip-long IsLogOfLine part.lines log.lines lines,
      logged_lines parts logs shape,
      sum_by-cons (λ (p : PartLog). length p.lines) log logs,
      sum_by-cons (λ (p : Part). length p.lines) part parts,
    )

logged_edits : (pieces : List (List Line)) (logs : List PhaseLog) → HasShape (map phase_of pieces) logs
    → sum_by (λ (phase : PhaseLog). length phase.edits) logs ≤ sum_by length pieces
logged_edits [] [] shape = omega arith
logged_edits [] (log ∷ logs) shape = absurd shape
logged_edits (piece ∷ pieces) [] shape = absurd shape
logged_edits (piece ∷ pieces) (log ∷ logs) ((edits, parts), shape) =
    omega (
      arith,
      edits,
      batches_few false piece,
      logged_edits pieces logs shape,
      sum_by-cons (λ (p : PhaseLog). length p.edits) log logs,
      sum_by-cons length piece pieces,
    )

logged_calls : (pieces : List (List Line)) (logs : List PhaseLog) → HasShape (map phase_of pieces) logs
    → sum_by (λ (phase : PhaseLog). sum_by (λ (part : PartLog). length part.lines) phase.callers) logs ≤ sum_by length pieces
logged_calls [] [] shape = omega arith
logged_calls [] (log ∷ logs) shape = absurd shape
logged_calls (piece ∷ pieces) [] shape = absurd shape
logged_calls (piece ∷ pieces) (log ∷ logs) ((edits, parts), shape) =
    omega (
      arith,
      logged_lines (parts_of piece) log.callers parts,
      parts_few piece,
      logged_calls pieces logs shape,
      sum_by-cons (λ (p : PhaseLog). sum_by (λ (part : PartLog). length part.lines) p.callers) log logs,
      sum_by-cons length piece pieces,
    )

-- ---- a generated script

-- each line has a byte at least, its line feed
lines_short : (lines : List Line) → length lines ≤ length (text_of_lines lines)
lines_short [] = omega arith
lines_short (one ∷ lines) =
    omega (arith, lines_short lines, length-append (ended one) (text_of_lines lines), length-append (generated_line one) (10 ∷ []))

-- the log of a generated script can be counted
pub generated_is_countable : GeneratedIsShort → (number classes selectors : ℕ) (log : Log) → IsSize classes selectors
    → Outcome (generated_script number classes selectors) VERSIONS log → IsCountable log
generated_is_countable short number classes selectors log size outcome =
    let lines = generated_lines number classes selectors in
    let few : length lines < 2 ^ 64 = omega (arith, lines_short lines, short number classes selectors size) in
    let pieces = slice_split is_phase lines in (
      omega (arith, few, pieces_few lines, logged_edits pieces log.phases outcome.shape),
      omega (arith, few, pieces_few lines, logged_calls pieces log.phases outcome.shape),
    )
