-- Small worked examples of the texts of logs: each kind of line, the order of lines, numbers without a name, what a sink
-- took, and what a text tells of its log.
use Rattle.std.specs.Prelude.{◌≡◌, List, ℕ, [], ◌∷◌, map, codes, Option, None, Some, true, false, refl}
use Rattle.std.specs.Fmt.{digits}
use Rattle.std.proofs.Common.{lit≤}
use Rattle.std.specs.List.{concat}
use Rattle.std.specs.Option.{option_map}
use Rattle.dt_definitions.specs.declared.why.Why.TheVariants.{ClassExists, ClassUnknown, ParentTwice, TooManyParents, HasSubclasses, LinkExists, LinkUnknown, Cycle, SelectorExists, SelectorUnknown, ArityDiffers, NoDefinition, HasDefinitions, DefinitionsFull}
use Rattle.dt_scratch.specs.declared.reply.Answer.TheVariants.{Method, NotUnderstood, Ambiguous}
use Rattle.dt_scratch.specs.declared.reply.Reply.TheVariants.{NoSelector, WrongArity, NoClass, Answered}
use Rattle.dt_script.specs.NameBook.{NameBook, empty_book}
use Rattle.dt_script.specs.Word.{Word}
use Rattle.dt_run.specs.Log.{Log}
use Rattle.dt_run.specs.Text.{words_of_edit_line, words_of_call_line, lines_of_part, lines_of_phase, all_of, text_of_line, text_of, is_named}
use Rattle.dt_run.specs.Printed.{TookText, TookPrefix}
use Rattle.dt_run.specs.Shape.{SameShape}
use Rattle.dt_run.specs.TextLaws.{is_in_range}
use Rattle.dt_run.specs.declared.log.CallLine.TheVariants.{Called, CallWorn, PinnedAt, PinWorn, Unpinned}
use Rattle.dt_run.specs.declared.log.EditLine.TheVariants.{Accepted, Refused, VersionsFull, CellsFull, RowsFull, NoPages}

abbrev two_classes : NameBook
two_classes = record { classes = codes "A" ∷ codes "B" ∷ []; selectors = codes "f" ∷ []; bodies = codes "fa" ∷ codes "fb" ∷ [] }

-- the text of some lines, if each number has a name
abbrev text : List (List Word) → Option (List ℕ)
text lines = option_map concat (all_of (map (text_of_line two_classes) lines))

-- ---- each kind of line

-- a refusal has its place in its batch, its number, its word, and the class that it is about
edit_lines : text (map words_of_edit_line (Accepted 10 ∷ Refused 1 (ClassUnknown 1) ∷ Refused 12 DefinitionsFull ∷ VersionsFull ∷ CellsFull ∷ RowsFull ∷ NoPages 7 3 ∷ []))
    ≡ Some (codes "edit accepted 10\nedit refused 1 2 class-unknown B\nedit refused 12 15 definitions-full\nedit versions-full\nedit cells-full\nedit rows-full\nedit no-pages 7 3\n")
unfolding digits
edit_lines = refl

-- each refusal has its own number and word, and those about a class its name
all_refusals : text (map (λ why. words_of_edit_line (Refused 1 why))
    (ClassExists ∷ ClassUnknown 1 ∷ ParentTwice 0 ∷ TooManyParents ∷ HasSubclasses 1 ∷ LinkExists ∷ LinkUnknown ∷ Cycle
    ∷ SelectorExists ∷ SelectorUnknown ∷ ArityDiffers ∷ NoDefinition ∷ HasDefinitions ∷ DefinitionsFull ∷ []))
    ≡ Some (codes "edit refused 1 1 class-exists\nedit refused 1 2 class-unknown B\nedit refused 1 3 parent-twice A\nedit refused 1 4 too-many-parents\nedit refused 1 5 has-subclasses B\nedit refused 1 6 link-exists\nedit refused 1 7 link-unknown\nedit refused 1 8 cycle\nedit refused 1 10 selector-exists\nedit refused 1 11 selector-unknown\nedit refused 1 12 arity-differs\nedit refused 1 13 no-definition\nedit refused 1 14 has-definitions\nedit refused 1 15 definitions-full\n")
unfolding digits
all_refusals = refl

-- a call has its caller, its version, and the words of its reply; a body is told by its name, a class by its place
calls : text (map (λ reply. words_of_call_line 3 (Called (record { version = 10; reply = reply })))
    (Answered (Method 1) ∷ Answered Ambiguous ∷ Answered NotUnderstood ∷ NoSelector ∷ WrongArity ∷ NoClass 2 ∷ []))
    ≡ Some (codes "call 3 10 method fb\ncall 3 10 ambiguous\ncall 3 10 not-understood\ncall 3 10 no-selector\ncall 3 10 wrong-arity\ncall 3 10 no-class 2\n")
unfolding digits
calls = refl

-- a worn call or pin tells the entries and no version; a caller's lines stand in its order
part_in_order : text (lines_of_part (record { caller = 12; lines = PinWorn 7 ∷ CallWorn 2 ∷ Unpinned ∷ PinnedAt 4 ∷ [] }))
    ≡ Some (codes "pin 12 worn 7\ncall 12 worn 2\nunpin 12\npin 12 4\n")
unfolding digits
part_in_order = refl

-- ---- whole texts

-- the edits of a phase stand before its callers, which keep their order
edits_before_callers : text (lines_of_phase 7 (record {
  from = 4;
  to = 5;
  edits = Accepted 5 ∷ [];
  callers = record { caller = 2; lines = Unpinned ∷ [] } ∷ record { caller = 1; lines = Unpinned ∷ [] } ∷ [];
})) ≡ Some (codes "phase 7 4 5\nedit accepted 5\nunpin 2\nunpin 1\n")
unfolding digits
edits_before_callers = refl

abbrev phases_of_two : Log
phases_of_two = record {
  phases = record { from = 0; to = 1; edits = Accepted 1 ∷ []; callers = [] } ∷ record { from = 1; to = 1; edits = []; callers = [] } ∷ [];
  last = 1;
}

-- phases are numbered from 1, and a later one goes on from the version before it
two_phases : text_of empty_book phases_of_two ≡ Some (codes "phase 1 0 1\nedit accepted 1\nphase 2 1 1\ndone 1\n")
unfolding digits
two_phases = refl

no_number_without_a_name : is_named empty_book phases_of_two ≡ true
no_number_without_a_name = refl

-- a log with a body, and one with a refusal about a class
abbrev of_body : ℕ → Log
of_body body = record {
  phases = record { from = 0; to = 0; edits = []; callers = record { caller = 1; lines = Called (record { version = 0; reply = Answered (Method body) }) ∷ [] } ∷ [] } ∷ [];
  last = 0;
}

abbrev of_class : ℕ → Log
of_class class = record { phases = record { from = 0; to = 0; edits = Refused 1 (ParentTwice class) ∷ []; callers = [] } ∷ []; last = 0 }

last_body : text_of two_classes (of_body 1) ≡ Some (codes "phase 1 0 0\ncall 1 0 method fb\ndone 0\n")
unfolding digits
last_body = refl

-- where a number has no name there is no text
no_third_body : text_of two_classes (of_body 2) ≡ None
unfolding digits
no_third_body = refl

no_third_class : text_of two_classes (of_class 2) ≡ None
unfolding digits
no_third_class = refl

third_body_is_not_named : is_named two_classes (of_body 2) ≡ false
third_body_is_not_named = refl

-- a caller without lines prints nothing, so that a text alone doesn't tell whether one was there
silent_caller : text_of empty_book (record { phases = record { from = 0; to = 0; edits = []; callers = record { caller = 1; lines = [] } ∷ [] } ∷ []; last = 0 })
    ≡ text_of empty_book (record { phases = record { from = 0; to = 0; edits = []; callers = [] } ∷ []; last = 0 })
unfolding digits
silent_caller = refl

-- ---- what a sink took

took_the_text : TookText two_classes (of_body 1) (Some (codes "# ")) (Some (codes "# phase 1 0 0\ncall 1 0 method fb\ndone 0\n"))
unfolding digits
took_the_text = (codes "phase 1 0 0\ncall 1 0 method fb\ndone 0\n", refl, refl)

took_a_prefix : TookPrefix two_classes (of_body 1) (Some []) (Some (codes "phase 1"))
unfolding digits
took_a_prefix = (codes "phase 1 0 0\ncall 1 0 method fb\ndone 0\n", refl, (7, lit≤ tt, refl))

nothing_of_a_log_without_a_text : TookPrefix two_classes (of_body 2) (Some []) (Some []) → ⊥
unfolding digits
nothing_of_a_log_without_a_text (text, is, prefix) = absurd cc

-- ---- what a text tells

-- two logs of one shape
one_shape : SameShape (of_body 0) (of_body 1)
one_shape = ((refl, ((refl, refl), tt)), tt)

-- other callers are another shape, and so are batches where there are none
other_callers : SameShape (of_body 0) (of_class 0) → ⊥
other_callers ((edits, callers), none) = absurd callers

other_batches : SameShape phases_of_two (of_class 0) → ⊥
other_batches (first, none) = absurd none

-- two bodies of one name can't be told from each other
abbrev one_name_twice : NameBook
one_name_twice = record { classes = []; selectors = []; bodies = codes "fa" ∷ codes "fa" ∷ [] }

same_text_of_two : text_of one_name_twice (of_body 0) ≡ text_of one_name_twice (of_body 1)
unfolding digits
same_text_of_two = refl

numbers_of_64_bits : is_in_range (of_body 0) ≡ true
numbers_of_64_bits = refl
