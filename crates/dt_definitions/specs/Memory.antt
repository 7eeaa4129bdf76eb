-- When an edit or a batch may end in want of memory.
use Rattle.std.specs.Prelude.{Bool, true, false, ◌&&◌, not, is_none, List, [], ◌∷◌, Result, Ok, Err, IsTrue}
use Rattle.std.specs.List.{list_any}
use Rattle.dt_definitions.specs.Program.{Program}
use Rattle.dt_definitions.specs.Step.{has_definition, refusal}
use Rattle.dt_definitions.specs.declared.edit.Edit.{Edit}
use Rattle.dt_definitions.specs.declared.edit.Edit.TheVariants.{AddClass, DropClass, Link, Unlink, AddSelector, DropSelector, Define, Undefine}
use Rattle.dt_definitions.specs.declared.why.ApplyFault.{ApplyFault}
use Rattle.dt_definitions.specs.declared.why.ApplyFault.TheVariants as apply_fault
use Rattle.dt_definitions.specs.declared.why.BatchFault.{BatchFault}
use Rattle.dt_definitions.specs.declared.why.BatchFault.TheVariants as batch_fault

-- whether the edit takes memory: a definition that isn't refused and isn't there yet, and no other edit
abbrev pub may_want_memory : Program → Edit → Bool
may_want_memory p (AddClass class parents) = false
may_want_memory p (DropClass class) = false
may_want_memory p (Link class parent) = false
may_want_memory p (Unlink class parent) = false
may_want_memory p (AddSelector selector arity) = false
may_want_memory p (DropSelector selector) = false
may_want_memory p (Define selector classes body) =
    is_none (refusal p (Define selector classes body)) && not (has_definition p selector classes)
may_want_memory p (Undefine selector classes) = false

-- whether it takes memory to keep what undoes the edit: a drop, a definition or its end doesn't tell what was there
abbrev pub undoing_takes_memory : Edit → Bool
undoing_takes_memory (AddClass class parents) = false
undoing_takes_memory (DropClass class) = true
undoing_takes_memory (Link class parent) = false
undoing_takes_memory (Unlink class parent) = false
undoing_takes_memory (AddSelector selector arity) = false
undoing_takes_memory (DropSelector selector) = true
undoing_takes_memory (Define selector classes body) = true
undoing_takes_memory (Undefine selector classes) = true

-- whether the batch takes memory: none for no edit, as much as the edit for one, and for more what undoes them
abbrev pub batch_may_want_memory : Program → List Edit → Bool
batch_may_want_memory p [] = false
batch_may_want_memory p (edit ∷ []) = may_want_memory p edit
batch_may_want_memory p (edit ∷ next ∷ edits) = list_any undoing_takes_memory (edit ∷ next ∷ edits)

-- the answer of an edit is want of memory only where this holds
abbrev pub NoMemoryOnlyWhere : Bool → Result (Unit {0}) ApplyFault → Type 0
NoMemoryOnlyWhere test (Ok _) = Unit {0}
NoMemoryOnlyWhere test (Err (apply_fault.Refused why)) = Unit {0}
NoMemoryOnlyWhere test (Err apply_fault.NoMemory) = IsTrue test

-- the answer of a batch is want of memory only where this holds
abbrev pub BatchNoMemoryOnlyWhere : Bool → Result (Unit {0}) BatchFault → Type 0
BatchNoMemoryOnlyWhere test (Ok _) = Unit {0}
BatchNoMemoryOnlyWhere test (Err (batch_fault.Refused at why)) = Unit {0}
BatchNoMemoryOnlyWhere test (Err batch_fault.NoMemory) = IsTrue test
