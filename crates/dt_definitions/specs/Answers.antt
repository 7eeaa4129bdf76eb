-- What the answers of edits and batches say of the programs before and after them.
use Rattle.std.specs.Prelude.{◌≡◌, ℕ, List, Result, Ok, Err}
use Rattle.dt_definitions.specs.Program.{Program}
use Rattle.dt_definitions.specs.declared.edit.Edit.{Edit}
use Rattle.dt_definitions.specs.declared.why.ApplyFault.{ApplyFault}
use Rattle.dt_definitions.specs.declared.why.ApplyFault.TheVariants as apply_fault
use Rattle.dt_definitions.specs.declared.why.BatchFault.{BatchFault}
use Rattle.dt_definitions.specs.declared.why.BatchFault.TheVariants as batch_fault
use Rattle.dt_definitions.specs.History.{step_edit, step_batch}

-- what the answer of an edit says of the programs before and after it; want of memory may come instead of any
abbrev pub Applies : Program → Edit → Program → Result (Unit {0}) ApplyFault → Type 0
Applies old edit new (Ok _) = step_edit old edit ≡ Ok new
Applies old edit new (Err (apply_fault.Refused why)) = (step_edit old edit ≡ Err why) × (new ≡ old)
Applies old edit new (Err apply_fault.NoMemory) = new ≡ old

-- what the answer of a batch says of the programs before and after it; want of memory may come instead of any
abbrev pub AppliesBatch : Program → List Edit → Program → Result (Unit {0}) BatchFault → Type 0
AppliesBatch old edits new (Ok _) = step_batch old edits ≡ Ok new
AppliesBatch old edits new (Err (batch_fault.Refused at why)) =
    (step_batch old edits ≡ Err (record { at = at; why = why })) × (new ≡ old)
AppliesBatch old edits new (Err batch_fault.NoMemory) = new ≡ old

-- the fault of a batch whose edit at this place has the fault
abbrev pub fault_at : ℕ → ApplyFault → BatchFault
fault_at place (apply_fault.Refused why) = batch_fault.Refused place why
fault_at place apply_fault.NoMemory = batch_fault.NoMemory
