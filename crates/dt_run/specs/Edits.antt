-- The edits of a log: what became of each batch.
use Rattle.std.specs.Prelude.{◌≡◌, ◌==◌, ℕ, ◌+◌, if◌then◌else◌, List, [], ◌∷◌, take, Result, Ok, Err}
use Rattle.std.specs.List.{AllZip}
use Rattle.dt_definitions.specs.Program.{Program}
use Rattle.dt_definitions.specs.Step.{step_batch, after, Refused as Refusal}
use Rattle.dt_tables.specs.Listed.{has_more_cells, has_more_rows}
use Rattle.dt_script.specs.Script.{Phase}
use Rattle.dt_run.specs.Log.{PhaseLog}
use Rattle.dt_run.specs.Versions.{Batch}
use Rattle.dt_run.specs.declared.log.EditLine.{EditLine}
use Rattle.dt_run.specs.declared.log.EditLine.TheVariants.{Accepted, Refused, VersionsFull, CellsFull, RowsFull}

-- the line of a batch that makes this program, at this version: the program would have more understood queries than a table
-- can have cells; it would have more rows; else it is accepted
abbrev pub line_of_new : ℕ → Program → EditLine
line_of_new version program =
    if has_more_cells program then CellsFull else if has_more_rows program then RowsFull else Accepted (version + 1)

-- the line of a batch that steps so, at this version
abbrev pub line_by : ℕ → Result Program Refusal → EditLine
line_by version (Ok program) = line_of_new version program
line_by version (Err refused) = Refused refused.at refused.why

-- the line of a batch at this version of the program, the first that holds: there may be no further version; an edit is
-- refused; the new program passes the limit of cells; it passes that of rows; else the batch is accepted
abbrev pub edit_line : ℕ → ℕ → Program → Batch → EditLine
edit_line limit version program batch =
    if version == limit then VersionsFull else line_by version (step_batch program batch)

-- the version after a batch with this line
abbrev pub version_after : ℕ → EditLine → ℕ
version_after version (Accepted number) = version + 1
version_after version _ = version

-- each batch has its line, at the version where its turn comes
abbrev pub AreEditsFrom : ℕ → List Batch → ℕ → List Batch → List EditLine → Type 0
AreEditsFrom limit history version [] [] = Unit {0}
AreEditsFrom limit history version (batch ∷ batches) (line ∷ lines) =
    (line ≡ edit_line limit version (after (take version history)) batch)
    × AreEditsFrom limit history (version_after version line) batches lines
AreEditsFrom limit history version _ _ = ⊥

-- Edits: in each phase every batch has its line; `limit` is the greatest version that there may be.
abbrev pub HasEdits : ℕ → List Batch → List Phase → List PhaseLog → Type 0
HasEdits limit history phases logs =
    AllZip (λ phase log. AreEditsFrom limit history log.from phase.edits log.edits) phases logs
