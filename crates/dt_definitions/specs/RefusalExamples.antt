-- Worked examples of refusals that the class graph, the selectors or the number of definitions decide.
use Rattle.std.specs.Prelude.{◌≡◌, ℕ, [], ◌∷◌, None, Some, replicate, refl}
use Rattle.std.specs.Option.{option_map}
use Rattle.dt_selectors.specs.Selectors.{add_cause, drop_cause}
use Rattle.dt_selectors.specs.declared.selectors.SelectorFault.TheVariants as selector_fault
use Rattle.dt_definitions.specs.Program.{Program}
use Rattle.dt_definitions.specs.Step.{refusal, with_definitions, place_causes, why_of_selector}
use Rattle.dt_definitions.specs.OrderExamples.{at, program}
use Rattle.dt_definitions.specs.declared.edit.Edit.TheVariants as edit
use Rattle.dt_definitions.specs.declared.why.Why.TheVariants as why

-- ---- those of the class graph

a_class_that_is_live : refusal program (edit.AddClass 3 (9 ∷ [])) ≡ Some why.ClassExists
a_class_that_is_live = refl

with_a_parent_that_is_not : refusal program (edit.AddClass 8 (0 ∷ 9 ∷ [])) ≡ Some (why.ClassUnknown 9)
with_a_parent_that_is_not = refl

dropped_without_being_live : refusal program (edit.DropClass 9) ≡ Some (why.ClassUnknown 9)
dropped_without_being_live = refl

-- the class is named by a definition, and has subclasses: these are told
subclasses_before_definitions : refusal program (edit.DropClass 0) ≡ Some (why.HasSubclasses 1)
subclasses_before_definitions = refl

a_link_that_is_there : refusal program (edit.Link 1 0) ≡ Some why.LinkExists
a_link_that_is_there = refl

a_link_that_is_not : refusal program (edit.Unlink 1 2) ≡ Some why.LinkUnknown
a_link_that_is_not = refl

the_class_before_the_parent : refusal program (edit.Unlink 9 8) ≡ Some (why.ClassUnknown 9)
the_class_before_the_parent = refl

-- ---- those of the selectors

added_twice : why_of_selector selector_fault.SelectorExists ≡ why.SelectorExists
added_twice = refl

as_the_selectors_refuse_it : refusal program (edit.AddSelector 4 2) ≡ option_map why_of_selector (add_cause program.selectors 4)
as_the_selectors_refuse_it = refl

and_as_they_refuse_to_drop_it : refusal program (edit.DropSelector 6) ≡ option_map why_of_selector (drop_cause program.selectors 6)
and_as_they_refuse_to_drop_it = refl

a_selector_without_definitions_goes : refusal program (edit.DropSelector 6) ≡ Some why.SelectorUnknown
a_selector_without_definitions_goes = refl

-- ---- those of a definition, in their order

no_cause_against_a_place : place_causes program 5 (3 ∷ 3 ∷ []) ≡ None ∷ None ∷ None ∷ []
no_cause_against_a_place = refl

two_causes_against_a_place : place_causes program 4 (3 ∷ 9 ∷ []) ≡ None ∷ Some why.ArityDiffers ∷ Some (why.ClassUnknown 9) ∷ []
two_causes_against_a_place = refl

the_selector_before_its_classes : refusal program (edit.Define 6 (9 ∷ []) 1) ≡ Some why.SelectorUnknown
the_selector_before_its_classes = refl

the_first_class_that_is_not_live : refusal program (edit.Define 5 (9 ∷ 8 ∷ []) 1) ≡ Some (why.ClassUnknown 9)
the_first_class_that_is_not_live = refl

-- a program of so many definitions
abbrev filled : ℕ → Program
filled count = with_definitions program (replicate count (at 4 (2 ∷ []) 42))

one_more_than_there_may_be : refusal (filled 65536) (edit.Define 4 (3 ∷ []) 43) ≡ Some why.DefinitionsFull
one_more_than_there_may_be = refl

as_many_as_there_may_be : refusal (filled 65535) (edit.Define 4 (3 ∷ []) 43) ≡ None
as_many_as_there_may_be = refl

another_body_in_a_full_program : refusal (filled 65536) (edit.Define 4 (2 ∷ []) 43) ≡ None
another_body_in_a_full_program = refl

a_class_before_a_full_program : refusal (filled 65536) (edit.Define 4 (9 ∷ []) 43) ≡ Some (why.ClassUnknown 9)
a_class_before_a_full_program = refl
