-- What a commit makes of a program, and what its answer says.
use Rattle.std.specs.Prelude.{◌≡◌, List, [], ◌∷◌, Option, Result, Ok, Err}
use Rattle.std.specs.Result.{result_unwrap_or}
use Rattle.dt_graph.specs.Refusal.{cause_if, first_cause, ok_unless}
use Rattle.dt_definitions.specs.Program.{Program, empty_program}
use Rattle.dt_definitions.specs.Step.{step_batch, Refused}
use Rattle.dt_definitions.specs.declared.edit.Edit.{Edit}
use Rattle.dt_definitions.specs.declared.why.BatchFault.{BatchFault}
use Rattle.dt_definitions.specs.declared.why.BatchFault.TheVariants as batch_fault
use Rattle.dt_propagate.specs.declared.change_fault.ChangeFault.{ChangeFault}
use Rattle.dt_propagate.specs.declared.change_fault.ChangeFault.TheVariants as change_fault
use Rattle.dt_tables.specs.Listed.{has_more_cells, has_more_rows}
use Rattle.dt_tables.specs.declared.commit_fault.CommitFault.{CommitFault}
use Rattle.dt_tables.specs.declared.commit_fault.CommitFault.TheVariants as commit_fault

-- the limit that the program passes, if it passes one: cells are looked at before rows
abbrev pub limit_passed : Program → Option CommitFault
limit_passed p = first_cause
    (cause_if (has_more_cells p) commit_fault.CellsFull
    ∷ cause_if (has_more_rows p) commit_fault.RowsFull
    ∷ [])

-- the program that a batch makes, if it is within the limits; the first edit that is refused comes before them
abbrev pub if_within : Result Program Refused → Result Program CommitFault
if_within (Ok new) = ok_unless (limit_passed new) new
if_within (Err refused) = Err (commit_fault.Refused refused.at refused.why)

-- what a commit makes of a program
abbrev pub committed : Program → List Edit → Result Program CommitFault
committed old edits = if_within (step_batch old edits)

-- what the answer of a commit says of the programs before and after it; want of memory may come instead of any
abbrev pub Commits : Program → List Edit → Program → Result (Unit {0}) CommitFault → Type 0
Commits old edits new (Ok _) = committed old edits ≡ Ok new
Commits old edits new (Err (commit_fault.Refused at why)) =
    (committed old edits ≡ Err (commit_fault.Refused at why)) × (new ≡ old)
Commits old edits new (Err commit_fault.CellsFull) = (committed old edits ≡ Err commit_fault.CellsFull) × (new ≡ old)
Commits old edits new (Err commit_fault.RowsFull) = (committed old edits ≡ Err commit_fault.RowsFull) × (new ≡ old)
Commits old edits new (Err commit_fault.NoMemory) = new ≡ old

-- the program after a commit: where the batch is refused, the old one
abbrev pub after_commit : Program → List Edit → Program
after_commit p edits = result_unwrap_or (committed p edits) p

-- the program after these batches, each committed or refused
abbrev pub after_commits_from : Program → List (List Edit) → Program
after_commits_from p [] = p
after_commits_from p (batch ∷ batches) = after_commits_from (after_commit p batch) batches

-- and from the empty program on
abbrev pub after_commits : List (List Edit) → Program
after_commits batches = after_commits_from empty_program batches

-- the fault of a commit whose batch isn't applied
abbrev pub by_batch : BatchFault → CommitFault
by_batch (batch_fault.Refused at why) = commit_fault.Refused at why
by_batch batch_fault.NoMemory = commit_fault.NoMemory

-- the fault of a commit whose changes aren't answered
abbrev pub by_change : ChangeFault → CommitFault
by_change change_fault.CellsFull = commit_fault.CellsFull
by_change change_fault.RowsFull = commit_fault.RowsFull
by_change change_fault.NoMemory = commit_fault.NoMemory
