-- The lines of the script that is generated from a number, a number of classes and a number of selectors. Each draw is
-- made where its line is written, from left to right: beside the lines of each part stands the state that they leave.
use Rattle.std.specs.Prelude.{◌==◌, ℕ, ◌+◌, ◌-◌, ◌*◌, ◌%◌, ◌||◌, zero, suc, if◌then◌else◌, List, [], ◌∷◌, ◌++◌, Bool}
use Rattle.dt_script.specs.Draw.{next_state, drawn, after_draws, state_after}
use Rattle.dt_script.specs.declared.line.Line.{Line}
use Rattle.dt_script.specs.declared.line.Line.TheVariants.{Header, AddClass, Link, Unlink, AddSelector, Define, Undefine, Begin, Commit, Phase, Caller, Call, End}

-- the lines of so many things, the first of which has this number, each written at the state that the one before it left
unfoldable pub lines_in_turn : (ℕ → ℕ → List Line) → (ℕ → ℕ → ℕ) → ℕ → ℕ → ℕ → List Line
lines_in_turn lines leaves state number zero = []
lines_in_turn lines leaves state number (suc more) =
    lines state number ++ lines_in_turn lines leaves (leaves state number) (number + 1) more

-- ---- classes: one batch

-- a second parent below the class, where it is another than the first
abbrev pub second_parent : ℕ → ℕ → ℕ → List ℕ
second_parent state class first = if drawn state class == first then [] else drawn state class ∷ []

-- the parents of a class: a class before it, and in one of four cases a second one that is drawn among them
abbrev pub parents_drawn : ℕ → ℕ → List ℕ
parents_drawn state zero = []
parents_drawn state class =
    drawn state class ∷ (if drawn (next_state state) 4 == 0
    then second_parent (next_state (next_state state)) class (drawn state class)
    else [])

-- the state after the parents of a class are drawn
abbrev pub after_parents : ℕ → ℕ → ℕ
after_parents state zero = state
after_parents state class =
    if drawn (next_state state) 4 == 0
    then next_state (next_state (next_state state))
    else next_state (next_state state)

-- the line of a class
abbrev pub class_line : ℕ → ℕ → List Line
class_line state class = AddClass class (parents_drawn state class) ∷ []

-- the batch of the classes, and the state after it
abbrev pub class_lines : ℕ → ℕ → List Line
class_lines state classes = Begin ∷ lines_in_turn class_line after_parents state 0 classes ++ Commit ∷ []

abbrev pub after_classes : ℕ → ℕ → ℕ
after_classes state classes = state_after after_parents state 0 classes

-- ---- selectors: one batch

-- every fiftieth selector takes two arguments, all others take one
abbrev pub arity_of_number : ℕ → ℕ
arity_of_number selector = if selector % 50 == 49 then 2 else 1

-- the line of a selector
abbrev pub selector_line : ℕ → ℕ → List Line
selector_line state selector = AddSelector selector (arity_of_number selector) ∷ []

-- nothing is drawn for a selector
abbrev pub after_selector : ℕ → ℕ → ℕ
after_selector state selector = state

-- the batch of the selectors
abbrev pub selector_lines : ℕ → List Line
selector_lines selectors = Begin ∷ lines_in_turn selector_line after_selector 0 0 selectors ++ Commit ∷ []

-- ---- definitions: batches of 500, the last of which may be shorter

-- how many definitions there are, some of which replace earlier ones
abbrev pub definition_count : ℕ → ℕ
definition_count selectors = 3 * selectors

-- how many definitions a batch has, but for the last batch
abbrev pub batch_size : ℕ
batch_size = 500

-- whether a definition is the first of its batch, and whether it is the last
abbrev pub is_first_of_batch : ℕ → Bool
is_first_of_batch number = number % batch_size == 0

abbrev pub is_last_of_batch : ℕ → ℕ → Bool
is_last_of_batch selectors number = is_first_of_batch (number + 1) || number + 1 == definition_count selectors

-- a class for each of so many places
abbrev pub classes_drawn : ℕ → ℕ → ℕ → List ℕ
classes_drawn classes state zero = []
classes_drawn classes state (suc places) = drawn state classes ∷ classes_drawn classes (next_state state) places

-- the selector of a definition: the selectors come in turn
abbrev pub selector_of : ℕ → ℕ → ℕ
selector_of selectors number = number % selectors

-- the classes of a definition, as they are drawn at a state
abbrev pub tuple_of : ℕ → ℕ → ℕ → ℕ → List ℕ
tuple_of classes selectors state number = classes_drawn classes state (arity_of_number (selector_of selectors number))

-- the state after the classes of a definition are drawn
abbrev pub after_definition : ℕ → ℕ → ℕ → ℕ
after_definition selectors state number = after_draws state (arity_of_number (selector_of selectors number))

-- the lines of a definition: that of its selector at its classes by the body of its number, and those that begin and end its
-- batch
abbrev pub definition_line : ℕ → ℕ → ℕ → ℕ → List Line
definition_line classes selectors state number =
    (if is_first_of_batch number then Begin ∷ [] else [])
    ++ Define (selector_of selectors number) (tuple_of classes selectors state number) number ∷ []
    ++ (if is_last_of_batch selectors number then Commit ∷ [] else [])

-- the batches of the definitions, and the state after them
abbrev pub definition_lines : ℕ → ℕ → ℕ → List Line
definition_lines classes selectors state =
    lines_in_turn (definition_line classes selectors) (after_definition selectors) state 0 (definition_count selectors)

abbrev pub after_definitions : ℕ → ℕ → ℕ
after_definitions selectors state = state_after (after_definition selectors) state 0 (definition_count selectors)

-- ---- callers: a phase of four, each with 2,500 calls

-- how many callers a phase has, and how many calls each makes
abbrev pub caller_count : ℕ
caller_count = 4

abbrev pub call_count : ℕ
call_count = 2500

-- the line of a call: any selector, at any classes
abbrev pub call_line : ℕ → ℕ → ℕ → ℕ → List Line
call_line classes selectors state number = Call (record {
  selector = drawn state selectors;
  classes = classes_drawn classes (next_state state) (arity_of_number (drawn state selectors));
}) ∷ []

-- the state after a call is drawn
abbrev pub after_call : ℕ → ℕ → ℕ → ℕ
after_call selectors state number = after_draws (next_state state) (arity_of_number (drawn state selectors))

-- the lines of a caller, and the state after them
abbrev pub caller_lines : ℕ → ℕ → ℕ → ℕ → List Line
caller_lines classes selectors state caller =
    Caller caller ∷ lines_in_turn (call_line classes selectors) (after_call selectors) state 0 call_count

abbrev pub after_caller : ℕ → ℕ → ℕ → ℕ
after_caller selectors state caller = state_after (after_call selectors) state 0 call_count

-- the phase of the callers, and the state after it
abbrev pub calling_lines : ℕ → ℕ → ℕ → List Line
calling_lines classes selectors state =
    Phase ∷ lines_in_turn (caller_lines classes selectors) (after_caller selectors) state 1 caller_count

abbrev pub after_callers : ℕ → ℕ → ℕ
after_callers selectors state = state_after (after_caller selectors) state 1 caller_count

-- ---- edits: a phase of 200, each a batch of its own, of four kinds in turn

-- how many edits there are
abbrev pub edit_count : ℕ
edit_count = 200

-- the first parent of a class, as it was drawn from the script's number
abbrev pub first_parent : ℕ → ℕ → ℕ
first_parent number class = drawn (state_after after_parents number 0 class) class

-- the classes of a definition, as they were drawn from the state before the first one
abbrev pub tuple_at : ℕ → ℕ → ℕ → ℕ → List ℕ
tuple_at classes selectors start definition =
    tuple_of classes selectors (state_after (after_definition selectors) start 0 definition) definition

-- a definition goes, whether or not it stands: its selector, at the classes that it had
abbrev pub undefine_line : (ℕ → List ℕ) → ℕ → ℕ → Line
undefine_line tuples selectors definition = Undefine (selector_of selectors definition) (tuples definition)

-- a definition comes again
abbrev pub define_line : (ℕ → List ℕ) → ℕ → ℕ → Line
define_line tuples selectors definition = Define (selector_of selectors definition) (tuples definition) definition

-- any class but the first
abbrev pub class_drawn : ℕ → ℕ → ℕ
class_drawn classes state = 1 + drawn state (classes - 1)

-- the line of an edit, from the first parents of the classes and the classes of the definitions
abbrev pub edit_line : (ℕ → ℕ) → (ℕ → List ℕ) → ℕ → ℕ → ℕ → ℕ → List Line
edit_line parents tuples classes selectors state edit =
    (if edit % 4 == 0 then undefine_line tuples selectors (drawn state (definition_count selectors))
    else if edit % 4 == 1 then define_line tuples selectors (drawn state (definition_count selectors))
    else if edit % 4 == 2 then Link (class_drawn classes state) (drawn (next_state state) (class_drawn classes state))
    else Unlink (class_drawn classes state) (parents (class_drawn classes state))) ∷ []

-- the state after an edit is drawn
abbrev pub after_edit : ℕ → ℕ → ℕ
after_edit state edit = if edit % 4 == 2 then next_state (next_state state) else next_state state

-- the phase of the edits, and the state after it
abbrev pub edit_lines : (ℕ → ℕ) → (ℕ → List ℕ) → ℕ → ℕ → ℕ → List Line
edit_lines parents tuples classes selectors state =
    Phase ∷ lines_in_turn (edit_line parents tuples classes selectors) after_edit state 0 edit_count

abbrev pub after_edits : ℕ → ℕ
after_edits state = state_after after_edit state 0 edit_count

-- ---- the whole script

-- the header, and the batches that make the program
abbrev pub program_lines : ℕ → ℕ → ℕ → List Line
program_lines number classes selectors =
    Header ∷ class_lines number classes
    ++ selector_lines selectors
    ++ definition_lines classes selectors (after_classes number classes)

-- the state after the program is drawn
abbrev pub after_program : ℕ → ℕ → ℕ → ℕ
after_program number classes selectors = after_definitions selectors (after_classes number classes)

-- callers before the edits and after them, and the end
abbrev pub phase_lines : (ℕ → ℕ) → (ℕ → List ℕ) → ℕ → ℕ → ℕ → List Line
phase_lines parents tuples classes selectors state =
    calling_lines classes selectors state
    ++ edit_lines parents tuples classes selectors (after_callers selectors state)
    ++ calling_lines classes selectors (after_edits (after_callers selectors state))
    ++ End ∷ []

-- the lines that a number gives, with so many classes and selectors
abbrev pub generated_lines : ℕ → ℕ → ℕ → List Line
generated_lines number classes selectors =
    program_lines number classes selectors
    ++ phase_lines (first_parent number) (tuple_at classes selectors (after_classes number classes)) classes selectors
    (after_program number classes selectors)
