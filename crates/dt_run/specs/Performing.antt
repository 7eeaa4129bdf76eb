-- What performing a script does, batch by batch and line by line, where callers come after the edits of their phase.
use Rattle.std.specs.Prelude.{◌≡◌, ◌==◌, ℕ, ◌+◌, if◌then◌else◌, List, [], ◌∷◌, set, get_or, replicate, Option, None, Some, Result, Ok, Err}
use Rattle.std.specs.List.{fold}
use Rattle.dt_definitions.specs.Program.{Program, empty_program}
use Rattle.dt_definitions.specs.Step.{step_batch, Refused as Refusal}
use Rattle.dt_tables.specs.Listed.{has_more_cells, has_more_rows}
use Rattle.dt_tables.specs.declared.commit_fault.CommitFault.{CommitFault}
use Rattle.dt_tables.specs.declared.commit_fault.CommitFault.TheVariants as fault
use Rattle.dt_scratch.specs.Query.{Query}
use Rattle.dt_scratch.specs.Resolve.{reply}
use Rattle.dt_script.specs.Script.{Part, Phase}
use Rattle.dt_script.specs.declared.line.CallerLine.{CallerLine}
use Rattle.dt_script.specs.declared.line.CallerLine.TheVariants.{Call, Pin, Unpin}
use Rattle.dt_run.specs.Log.{PartLog, PhaseLog}
use Rattle.dt_run.specs.Versions.{Batch}
use Rattle.dt_run.specs.Edits.{edit_line, line_by}
use Rattle.dt_run.specs.declared.log.CallLine.{CallLine}
use Rattle.dt_run.specs.declared.log.CallLine.TheVariants.{Called, PinnedAt, Unpinned}
use Rattle.dt_run.specs.declared.log.EditLine.{EditLine}
use Rattle.dt_run.specs.declared.log.EditLine.TheVariants.{Accepted, Refused, CellsFull, RowsFull}
use Rattle.dt_run.specs.declared.log.Stamped.{Stamped}
use Rattle.dt_run.specs.declared.perform.snapshot.Snapshot.{Snapshot}

-- what the items give in order, where each changes the state that the next one meets
abbrev pub outputs : {S X Y : Type 0} → (S → X → Y) → (S → X → S) → S → List X → List Y
outputs give next state [] = []
outputs give next state (item ∷ items) = give state item ∷ outputs give next (next state item) items

-- the first version
abbrev pub first_version : Snapshot
first_version = record { version = 0; program = empty_program }

-- the version after a batch that makes this program: the old one where a limit is passed
abbrev pub stepped_to : Snapshot → Program → Snapshot
stepped_to here program =
    if has_more_cells program then here else if has_more_rows program then here
    else record { version = here.version + 1; program = program }

-- the version after a batch that steps so
abbrev pub stepped_by : Snapshot → Result Program Refusal → Snapshot
stepped_by here (Ok program) = stepped_to here program
stepped_by here (Err refused) = here

-- a batch has this line at this version of the program, where there may be a further one, and leads to the later version
pub record Comes (version : ℕ) (old : Program) (batch : Batch) (line : EditLine) (later : Snapshot) : Type 0 where
  pub line_is : line_by version (step_batch old batch) ≡ line
  pub later_is : stepped_by (record { version = version; program = old }) (step_batch old batch) ≡ later

-- what the answer of a commit says of its batch, where the program after it is this one
abbrev pub Tells : ℕ → Program → Batch → Program → Result (Unit {0}) CommitFault → Type 0
Tells version old batch new (Ok _) =
    Comes version old batch (Accepted (version + 1)) (record { version = version + 1; program = new })
Tells version old batch new (Err (fault.Refused at why)) =
    (new ≡ old) × Comes version old batch (Refused at why) (record { version = version; program = old })
Tells version old batch new (Err fault.CellsFull) =
    (new ≡ old) × Comes version old batch CellsFull (record { version = version; program = old })
Tells version old batch new (Err fault.RowsFull) =
    (new ≡ old) × Comes version old batch RowsFull (record { version = version; program = old })
Tells version old batch new (Err fault.NoMemory) = new ≡ old

-- the version after a batch
abbrev pub after_batch : ℕ → Snapshot → Batch → Snapshot
after_batch limit here batch =
    if here.version == limit then here else stepped_by here (step_batch here.program batch)

-- the lines of some batches, and the version after them
abbrev pub edit_lines : ℕ → Snapshot → List Batch → List EditLine
edit_lines limit here batches =
    outputs (λ at batch. edit_line limit at.version at.program batch) (after_batch limit) here batches

abbrev pub after_batches : ℕ → Snapshot → List Batch → Snapshot
after_batches limit here batches = fold (after_batch limit) here batches

-- the reply at a version
abbrev pub stamped : Snapshot → Query → Stamped
stamped at query = record { version = at.version; reply = reply at.program query }

-- the version that a caller sees: the one that it keeps, if it does, and else the one that stands
abbrev pub seen : Snapshot → Option Snapshot → Snapshot
seen here None = here
seen here (Some pinned) = pinned

-- what is logged of a line of a caller, and what the caller keeps after it
abbrev pub call_line : Snapshot → Option Snapshot → CallerLine → CallLine
call_line here pin (Call query) = Called (stamped (seen here pin) query)
call_line here pin Pin = PinnedAt here.version
call_line here pin Unpin = Unpinned

abbrev pub pin_by : Snapshot → Option Snapshot → CallerLine → Option Snapshot
pin_by here pin (Call query) = pin
pin_by here pin Pin = Some here
pin_by here pin Unpin = None

-- the same of all its lines in a phase
abbrev pub call_lines : Snapshot → Option Snapshot → List CallerLine → List CallLine
call_lines here pin lines = outputs (call_line here) (pin_by here) pin lines

abbrev pub pin_after_lines : Snapshot → Option Snapshot → List CallerLine → Option Snapshot
pin_after_lines here pin lines = fold (pin_by here) pin lines

-- what each caller keeps, in the place of its number
abbrev pub Pins : Type 0
Pins = List (Option Snapshot)

-- what this caller keeps
abbrev pub pin_of : Pins → ℕ → Option Snapshot
pin_of pins caller = get_or pins caller None

-- the log of a caller before its lines
abbrev pub room : Part → PartLog
room part = record { caller = part.caller; lines = [] }

-- the log of a caller in a phase, and what all callers keep after it
abbrev pub part_log : Snapshot → Pins → Part → PartLog
part_log here pins part =
    record { caller = part.caller; lines = call_lines here (pin_of pins part.caller) part.lines }

abbrev pub with_part : Snapshot → Pins → Part → Pins
with_part here pins part = set pins part.caller (pin_after_lines here (pin_of pins part.caller) part.lines)

-- the same of all callers of a phase
abbrev pub part_logs : Snapshot → Pins → List Part → List PartLog
part_logs here pins parts = outputs (part_log here) (with_part here) pins parts

abbrev pub with_parts : Snapshot → Pins → List Part → Pins
with_parts here pins parts = fold (with_part here) pins parts

-- between phases: the version that stands, and what each caller keeps
pub record Standing : Type 0 where
  pub current : Snapshot
  pub pins : Pins

-- before the first phase, with callers up to the number of readers
abbrev pub at_first : ℕ → Standing
at_first readers = record { current = first_version; pins = replicate (readers + 1) None }

-- the version after the edits of a phase
abbrev pub edited : ℕ → Standing → Phase → Snapshot
edited limit standing phase = after_batches limit standing.current phase.edits

-- the log of a phase, whose callers come after its edits; and what stands after it
abbrev pub phase_log : ℕ → Standing → Phase → PhaseLog
phase_log limit standing phase = record {
  from = standing.current.version;
  to = (edited limit standing phase).version;
  edits = edit_lines limit standing.current phase.edits;
  callers = part_logs (edited limit standing phase) standing.pins phase.callers;
}

abbrev pub after_phase : ℕ → Standing → Phase → Standing
after_phase limit standing phase = record {
  current = edited limit standing phase;
  pins = with_parts (edited limit standing phase) standing.pins phase.callers;
}

-- the same of all phases
abbrev pub phase_logs : ℕ → Standing → List Phase → List PhaseLog
phase_logs limit standing phases = outputs (phase_log limit) (after_phase limit) standing phases

abbrev pub after_phases : ℕ → Standing → List Phase → Standing
after_phases limit standing phases = fold (after_phase limit) standing phases
