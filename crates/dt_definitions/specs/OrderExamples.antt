-- Worked examples of places, of the order of definitions, and of when an edit takes memory.
use Rattle.std.specs.Prelude.{◌≡◌, ℕ, true, false, List, [], ◌∷◌, None, Some, Err, refl}
use Rattle.dt_definitions.specs.Program.{Definition, Program, empty_program, arity_of, same_classes, are_classes_before, is_definition, key_of, is_key_before, insert_definition, definitions_of, body_of}
use Rattle.dt_definitions.specs.Nth.{nth}
use Rattle.dt_definitions.specs.Step.{is_named, is_defined, has_definition, arity_differs, refusal, effect, step_from, stepped, after, fault_at, why_of}
use Rattle.dt_definitions.specs.Memory.{may_want_memory, batch_may_want_memory}
use Rattle.dt_graph.specs.declared.graph_fault.GraphFault.TheVariants as fault
use Rattle.dt_definitions.specs.declared.edit.Edit.TheVariants as edit
use Rattle.dt_definitions.specs.declared.why.Why.TheVariants as why
use Rattle.dt_definitions.specs.declared.why.ApplyFault.TheVariants as apply_fault
use Rattle.dt_definitions.specs.declared.why.BatchFault.TheVariants as batch_fault

abbrev pub at : ℕ → List ℕ → ℕ → Definition
at selector classes body = record { selector = selector; classes = classes; body = body }

-- ---- places, from 1

no_place_zero : nth {T = ℕ} (7 ∷ 8 ∷ []) 0 ≡ None
no_place_zero = refl

the_first_place : nth {T = ℕ} (7 ∷ 8 ∷ []) 1 ≡ Some 7
the_first_place = refl

the_last_place : nth {T = ℕ} (7 ∷ 8 ∷ []) 2 ≡ Some 8
the_last_place = refl

behind_the_last_place : nth {T = ℕ} (7 ∷ 8 ∷ []) 3 ≡ None
behind_the_last_place = refl

-- ---- lists of classes

in_another_order : same_classes (1 ∷ 2 ∷ []) (2 ∷ 1 ∷ []) ≡ false
in_another_order = refl

with_one_more : same_classes (1 ∷ []) (1 ∷ 2 ∷ []) ≡ false
with_one_more = refl

the_same : same_classes (1 ∷ 2 ∷ []) (1 ∷ 2 ∷ []) ≡ true
the_same = refl

by_the_first_that_differs : are_classes_before (1 ∷ 9 ∷ []) (2 ∷ 0 ∷ []) ≡ true
by_the_first_that_differs = refl

what_it_begins_stands_behind : are_classes_before (1 ∷ 2 ∷ []) (1 ∷ []) ≡ false
what_it_begins_stands_behind = refl

not_before_itself : are_classes_before (1 ∷ 2 ∷ []) (1 ∷ 2 ∷ []) ≡ false
not_before_itself = refl

-- ---- the order of definitions: by selector, then by classes; the body doesn't count

by_selector_first : is_key_before (key_of (at 4 (9 ∷ []) 1)) (key_of (at 5 (0 ∷ []) 0)) ≡ true
by_selector_first = refl

then_by_classes : is_key_before (key_of (at 4 (9 ∷ []) 0)) (key_of (at 4 (8 ∷ []) 1)) ≡ false
then_by_classes = refl

not_by_body : is_key_before (key_of (at 4 (9 ∷ []) 0)) (key_of (at 4 (9 ∷ []) 1)) ≡ false
not_by_body = refl

of_any_body : is_definition 4 (9 ∷ []) (at 4 (9 ∷ []) 1) ≡ true
of_any_body = refl

of_another_selector : is_definition 5 (9 ∷ []) (at 4 (9 ∷ []) 1) ≡ false
of_another_selector = refl

between : insert_definition (at 4 (5 ∷ []) 2) (at 4 (1 ∷ []) 1 ∷ at 4 (9 ∷ []) 3 ∷ [])
    ≡ at 4 (1 ∷ []) 1 ∷ at 4 (5 ∷ []) 2 ∷ at 4 (9 ∷ []) 3 ∷ []
between = refl

in_place_of_the_last : insert_definition (at 4 (9 ∷ []) 2) (at 4 (1 ∷ []) 1 ∷ at 4 (9 ∷ []) 3 ∷ [])
    ≡ at 4 (1 ∷ []) 1 ∷ at 4 (9 ∷ []) 2 ∷ []
in_place_of_the_last = refl

-- ---- a program with two selectors, one of two arguments, and four classes of which one has no definition

abbrev pub program : Program
program = stepped empty_program
    (edit.AddClass 0 [] ∷ edit.AddClass 1 (0 ∷ []) ∷ edit.AddClass 2 (0 ∷ []) ∷ edit.AddClass 3 []
    ∷ edit.AddSelector 4 1 ∷ edit.AddSelector 5 2
    ∷ edit.Define 5 (0 ∷ 1 ∷ []) 51 ∷ edit.Define 4 (2 ∷ []) 42 ∷ [])

its_definitions : program.definitions ≡ at 4 (2 ∷ []) 42 ∷ at 5 (0 ∷ 1 ∷ []) 51 ∷ []
its_definitions = refl

two_arguments : arity_of program 5 ≡ Some 2
two_arguments = refl

no_such_selector : arity_of program 6 ≡ None
no_such_selector = refl

of_one_selector : definitions_of program 5 ≡ at 5 (0 ∷ 1 ∷ []) 51 ∷ []
of_one_selector = refl

of_a_selector_without_definitions : definitions_of program 6 ≡ []
of_a_selector_without_definitions = refl

the_body : body_of program.definitions 5 (0 ∷ 1 ∷ []) ≡ Some 51
the_body = refl

no_body_the_other_way_round : body_of program.definitions 5 (1 ∷ 0 ∷ []) ≡ None
no_body_the_other_way_round = refl

named_in_the_second_place : is_named program 1 ≡ true
named_in_the_second_place = refl

not_named : is_named program 3 ≡ false
not_named = refl

defined : is_defined program 5 ≡ true
defined = refl

not_defined : is_defined program 6 ≡ false
not_defined = refl

has_it : has_definition program 4 (2 ∷ []) ≡ true
has_it = refl

has_it_at_no_other_class : has_definition program 4 (1 ∷ []) ≡ false
has_it_at_no_other_class = refl

takes_two : arity_differs program 5 (0 ∷ []) ≡ true
takes_two = refl

a_selector_that_is_not_live_takes_no_number : arity_differs program 6 (0 ∷ []) ≡ false
a_selector_that_is_not_live_takes_no_number = refl

-- ---- refusals and effects

with_its_class : why_of (fault.HasSubclasses 7) ≡ why.HasSubclasses 7
with_its_class = refl

a_cycle_is_told_of : refusal program (edit.Link 0 1) ≡ Some why.Cycle
a_cycle_is_told_of = refl

a_selector_goes_alone : effect program (edit.DropSelector 5)
    ≡ record { graph = program.graph; selectors = record { number = 4; arity = 1 } ∷ []; definitions = program.definitions }
a_selector_goes_alone = refl

a_class_goes_with_its_links : (effect program (edit.DropClass 2)).graph
    ≡ record { classes = 0 ∷ 1 ∷ 3 ∷ []; links = record { class = 1; parent = 0 } ∷ [] }
a_class_goes_with_its_links = refl

places_are_counted_on : step_from 5 program (edit.AddClass 8 [] ∷ edit.AddClass 8 [] ∷ []) ≡ Err (record { at = 6; why = why.ClassExists })
places_are_counted_on = refl

an_edit_sees_those_before_it : step_from 1 program (edit.Undefine 4 (2 ∷ []) ∷ edit.DropClass 2 ∷ edit.Link 1 2 ∷ [])
    ≡ Err (record { at = 3; why = why.ClassUnknown 2 })
an_edit_sees_those_before_it = refl

a_refused_batch_in_a_history : after ((edit.AddClass 0 [] ∷ []) ∷ (edit.AddClass 1 [] ∷ edit.DropClass 7 ∷ []) ∷ (edit.AddClass 2 [] ∷ []) ∷ [])
    ≡ after ((edit.AddClass 0 [] ∷ edit.AddClass 2 [] ∷ []) ∷ [])
a_refused_batch_in_a_history = refl

no_history : after [] ≡ empty_program
no_history = refl

with_its_place : fault_at 3 (apply_fault.Refused why.Cycle) ≡ batch_fault.Refused 3 why.Cycle
with_its_place = refl

memory_has_no_place : fault_at 3 apply_fault.NoMemory ≡ batch_fault.NoMemory
memory_has_no_place = refl

-- ---- memory

a_new_definition_takes_memory : may_want_memory program (edit.Define 4 (3 ∷ []) 43) ≡ true
a_new_definition_takes_memory = refl

another_body_takes_none : may_want_memory program (edit.Define 4 (2 ∷ []) 43) ≡ false
another_body_takes_none = refl

a_refused_definition_takes_none : may_want_memory program (edit.Define 4 (9 ∷ []) 43) ≡ false
a_refused_definition_takes_none = refl

no_edit_takes_none : batch_may_want_memory program [] ≡ false
no_edit_takes_none = refl

one_edit_takes_its_own : batch_may_want_memory program (edit.AddClass 9 [] ∷ []) ≡ false
one_edit_takes_its_own = refl

links_take_none : batch_may_want_memory program (edit.AddClass 9 [] ∷ edit.Link 9 3 ∷ edit.Unlink 2 1 ∷ []) ≡ false
links_take_none = refl

a_drop_is_kept : batch_may_want_memory program (edit.Link 3 2 ∷ edit.DropClass 3 ∷ []) ≡ true
a_drop_is_kept = refl
