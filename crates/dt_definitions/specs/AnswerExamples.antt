-- Worked examples of answers: what those of edits and of batches tell, and where they may be want of memory.
use Rattle.std.specs.Prelude.{◌≡◌, true, false, List, [], ◌∷◌, Ok, Err, refl}
use Rattle.dt_definitions.specs.Program.{empty_program}
use Rattle.dt_definitions.specs.SelectorLists.{definition_of, with_selector}
use Rattle.dt_definitions.specs.Step.{and_then, stepped, after_from, Applies, AppliesBatch}
use Rattle.dt_definitions.specs.Memory.{batch_may_want_memory, NoMemoryOnlyWhere, BatchNoMemoryOnlyWhere}
use Rattle.dt_definitions.specs.Laws.{LeadsTo}
use Rattle.dt_definitions.specs.OrderExamples.{at, program}
use Rattle.dt_definitions.specs.declared.edit.Edit.{Edit}
use Rattle.dt_definitions.specs.declared.edit.Edit.TheVariants as edit
use Rattle.dt_definitions.specs.declared.why.Why.TheVariants as why
use Rattle.dt_definitions.specs.declared.why.ApplyFault.TheVariants as apply_fault
use Rattle.dt_definitions.specs.declared.why.BatchFault.TheVariants as batch_fault

-- ---- a step and those after it

the_rest_is_of_the_program_reached : and_then (Ok empty_program) 3 (λ p. Ok (stepped p (edit.AddClass 1 [] ∷ [])))
    ≡ Ok (stepped empty_program (edit.AddClass 1 [] ∷ []))
the_rest_is_of_the_program_reached = refl

there_is_no_rest : and_then (Err why.Cycle) 3 (λ p. Ok p) ≡ Err (record { at = 3; why = why.Cycle })
there_is_no_rest = refl

-- two edits, one after the other
abbrev pub two : List Edit
two = edit.AddClass 8 [] ∷ edit.Link 8 3 ∷ []

they_lead_to_a_program : LeadsTo program two (stepped program two)
they_lead_to_a_program = (stepped program (edit.AddClass 8 [] ∷ []), refl, (stepped program two, refl, refl))

from_any_program : after_from program (two ∷ (edit.Link 9 8 ∷ []) ∷ []) ≡ stepped program two
from_any_program = refl

-- ---- answers

an_edit_is_refused : Applies program (edit.Unlink 1 2) program (Err (apply_fault.Refused why.LinkUnknown))
an_edit_is_refused = (refl, refl)

an_edit_is_accepted : Applies program (edit.AddClass 8 []) (stepped program (edit.AddClass 8 [] ∷ [])) (Ok tt)
an_edit_is_accepted = refl

memory_is_wanting : Applies program (edit.Define 4 (3 ∷ []) 43) program (Err apply_fault.NoMemory)
memory_is_wanting = refl

a_batch_is_accepted : AppliesBatch program two (stepped program two) (Ok tt)
a_batch_is_accepted = refl

-- its second edit is the first that is refused, and its first leaves nothing
a_batch_is_refused : AppliesBatch program (edit.AddClass 8 [] ∷ edit.Unlink 8 3 ∷ edit.Link 9 8 ∷ []) program
    (Err (batch_fault.Refused 2 why.LinkUnknown))
a_batch_is_refused = (refl, refl)

-- ---- where an answer may be want of memory

only_where_the_test_holds : NoMemoryOnlyWhere true (Err apply_fault.NoMemory)
only_where_the_test_holds = refl

a_refusal_asks_for_no_test : NoMemoryOnlyWhere false (Err (apply_fault.Refused why.Cycle))
a_refusal_asks_for_no_test = tt

only_where_the_test_of_a_batch_holds : BatchNoMemoryOnlyWhere true (Err batch_fault.NoMemory)
only_where_the_test_of_a_batch_holds = refl

a_new_definition_alone : batch_may_want_memory program (edit.Define 4 (3 ∷ []) 43 ∷ []) ≡ true
a_new_definition_alone = refl

-- ---- definitions without their selector

with_its_selector_again : definition_of 5 (record { classes = 0 ∷ 1 ∷ []; body = 51 }) ≡ at 5 (0 ∷ 1 ∷ []) 51
with_its_selector_again = refl

all_with_their_selector : with_selector 4 (record { classes = 2 ∷ []; body = 42 } ∷ record { classes = 3 ∷ []; body = 43 } ∷ [])
    ≡ at 4 (2 ∷ []) 42 ∷ at 4 (3 ∷ []) 43 ∷ []
all_with_their_selector = refl
