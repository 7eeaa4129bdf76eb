-- The script that is generated from 0 with two classes and one selector, and parts of others.
use Rattle.std.specs.Prelude.{◌≡◌, ◌-◌, [], ◌∷◌, ◌++◌, codes, drop, length, map, take, refl}
use Rattle.std.specs.Fmt.{digits}
use Rattle.dt_script.specs.Draw.{next_state, number_of, state_after}
use Rattle.dt_script.specs.GeneratedLines.{lines_in_turn, class_lines, selector_line, selector_lines, definition_line, definition_lines, after_classes, after_program, call_line, after_call, after_callers, calling_lines, first_parent, tuple_at, edit_line, after_edit, generated_lines}
use Rattle.dt_script.specs.GeneratedText.{text_of_lines}
use Rattle.dt_script.specs.declared.line.Line.TheVariants.{AddClass, Begin, Commit, Phase, Caller}

-- its classes
two_classes : class_lines 0 2 ≡ Begin ∷ AddClass 0 [] ∷ AddClass 1 (0 ∷ []) ∷ Commit ∷ []
unfolding next_state number_of state_after lines_in_turn
two_classes = refl

-- five classes of 2, two of which have a second parent, and their first parents as edits name them
five_classes : class_lines 2 5
    ≡ Begin ∷ AddClass 0 [] ∷ AddClass 1 (0 ∷ []) ∷ AddClass 2 (0 ∷ 1 ∷ []) ∷ AddClass 3 (2 ∷ 0 ∷ []) ∷ AddClass 4 (1 ∷ []) ∷ Commit ∷ []
unfolding next_state number_of state_after lines_in_turn
five_classes = refl

first_parents : map (first_parent 2) (1 ∷ 2 ∷ 3 ∷ 4 ∷ []) ≡ 0 ∷ 0 ∷ 2 ∷ 1 ∷ []
unfolding next_state number_of state_after
first_parents = refl

-- the text of its classes
two_classes_text : text_of_lines (class_lines 0 2) ≡ codes "begin\nclass c0\nclass c1 < c0\ncommit\n"
unfolding next_state number_of state_after lines_in_turn digits
two_classes_text = refl

-- and of its only selector
one_selector_text : text_of_lines (selector_lines 1) ≡ codes "begin\nselector s0 1\ncommit\n"
unfolding lines_in_turn digits
one_selector_text = refl

-- and of its three definitions
three_definitions_text : text_of_lines (definition_lines 2 1 (after_classes 0 2))
    ≡ codes "begin\ndefine s0 c0 -> b0\ndefine s0 c1 -> b1\ndefine s0 c1 -> b2\ncommit\n"
unfolding next_state number_of state_after lines_in_turn digits
three_definitions_text = refl

-- the first calls of its first caller
three_calls_text : text_of_lines (lines_in_turn (call_line 2 1) (after_call 1) (after_program 0 2 1) 0 3)
    ≡ codes "call s0 c1\ncall s0 c1\ncall s0 c0\n"
unfolding next_state number_of state_after lines_in_turn digits
three_calls_text = refl

-- an edit of each kind, after 10,000 calls
four_edits_text : text_of_lines (lines_in_turn (edit_line (first_parent 0) (tuple_at 2 1 (after_classes 0 2)) 2 1) after_edit
    (after_callers 1 (after_program 0 2 1)) 0 4)
    ≡ codes "undefine s0 c1\ndefine s0 c0 -> b0\nlink c1 < c0\nunlink c1 < c0\n"
unfolding next_state number_of state_after lines_in_turn digits
four_edits_text = refl

-- two edits of each kind, of six classes and two selectors: links and unlinks are of any class but the first
eight_edits_text : text_of_lines (lines_in_turn (edit_line (λ class. class - 1) (λ definition. definition ∷ []) 6 2) after_edit 4 0 8)
    ≡ codes "undefine s0 c2\ndefine s0 c4 -> b4\nlink c5 < c1\nunlink c1 < c0\nundefine s1 c5\ndefine s1 c1 -> b1\nlink c4 < c2\nunlink c2 < c1\n"
unfolding next_state number_of lines_in_turn digits
eight_edits_text = refl

-- the 50th selector takes two arguments
two_arguments_text : text_of_lines (selector_line 0 48 ++ selector_line 0 49) ≡ codes "selector s48 1\nselector s49 2\n"
unfolding digits
two_arguments_text = refl

-- a batch ends at its 500th definition, and at the last one
batches_end : text_of_lines (definition_line 2 300 0 499 ++ definition_line 2 300 0 500 ++ definition_line 2 300 0 899)
    ≡ codes "define s199 c1 c0 -> b499\ncommit\nbegin\ndefine s200 c1 -> b500\ndefine s299 c1 c0 -> b899\ncommit\n"
unfolding next_state number_of digits
batches_end = refl

-- 20,000 calls of eight callers, 200 edits, and 17 lines more
how_many_lines : length (generated_lines 0 2 1) ≡ 20_225
unfolding next_state number_of state_after lines_in_turn
how_many_lines = refl

-- callers come before the edits, and are counted from 1; after the edits they go on where those left the state
first_phase : take 2 (drop 13 (generated_lines 0 2 1)) ≡ Phase ∷ Caller 1 ∷ []
unfolding next_state number_of state_after lines_in_turn
first_phase = refl

second_caller : take 1 (drop 2502 (calling_lines 2 1 0)) ≡ Caller 2 ∷ []
unfolding next_state number_of state_after lines_in_turn
second_caller = refl

last_phase_text : text_of_lines (take 8 (drop 10_219 (generated_lines 0 2 1)))
    ≡ codes "phase\ncaller 1\ncall s0 c1\ncall s0 c0\ncall s0 c0\ncall s0 c0\ncall s0 c0\ncall s0 c1\n"
unfolding next_state number_of state_after lines_in_turn digits
last_phase_text = refl
