-- A program: the class graph, the selectors with their arity, and the definitions of selectors at lists of classes.
use Rattle.std.specs.Prelude.{◌==◌, ℕ, Bool, false, true, ◌&&◌, ◌||◌, nat_lt, List, [], ◌∷◌, Option, filter, find}
use Rattle.std.specs.Option.{option_map}
use Rattle.dt_graph.specs.InOrder.{insert_by_key}
use Rattle.dt_graph.specs.SameLists.{same_list}
use Rattle.dt_graph.specs.Graph.{Graph, empty_graph}
use Rattle.dt_selectors.specs.Selectors.{Selector, arity_in}
use Rattle.dt_definitions.specs.declared.definition_key.DefinitionKey.{DefinitionKey}

-- a selector is defined at a list of classes, one for each argument, by a body
pub record Definition : Type 0 where
  pub selector : ℕ
  pub classes : List ℕ
  pub body : ℕ

-- the class graph; the selectors in ascending order; the definitions in ascending order of selector, then classes
pub record Program : Type 0 where
  pub graph : Graph
  pub selectors : List Selector
  pub definitions : List Definition

-- the program with nothing in it
abbrev pub empty_program : Program
empty_program = record { graph = empty_graph; selectors = []; definitions = [] }

-- the arity of the selector, if it is live
abbrev pub arity_of : Program → ℕ → Option ℕ
arity_of program selector = arity_in program.selectors selector

-- whether the two lists are the same
abbrev pub same_classes : List ℕ → List ℕ → Bool
same_classes xs ys = same_list xs ys

-- whether the first list stands before the second: by the first place that differs, and a list before what it begins
abbrev pub are_classes_before : List ℕ → List ℕ → Bool
are_classes_before [] [] = false
are_classes_before [] (y ∷ ys) = true
are_classes_before (x ∷ xs) [] = false
are_classes_before (x ∷ xs) (y ∷ ys) = nat_lt x y || ((x == y) && are_classes_before xs ys)

-- whether it is the definition of this selector at these classes
abbrev pub is_definition : ℕ → List ℕ → Definition → Bool
is_definition selector classes d = (d.selector == selector) && same_classes d.classes classes

-- where a definition stands
abbrev pub key_of : Definition → DefinitionKey
key_of d = record { selector = d.selector; classes = d.classes }

-- whether the first stands before the second: by selector, then by classes
abbrev pub is_key_before : DefinitionKey → DefinitionKey → Bool
is_key_before a b =
    nat_lt a.selector b.selector || ((a.selector == b.selector) && are_classes_before a.classes b.classes)

-- whether they are the same selector and classes
abbrev pub is_same_key : DefinitionKey → DefinitionKey → Bool
is_same_key a b = (b.selector == a.selector) && same_classes b.classes a.classes

-- the definitions with this one, in ascending order; one of the same selector and classes is replaced
abbrev pub insert_definition : Definition → List Definition → List Definition
insert_definition definition definitions = insert_by_key key_of is_key_before is_same_key definition definitions

-- the definitions of the selector
abbrev pub definitions_of : Program → ℕ → List Definition
definitions_of program selector = filter (λ d. d.selector == selector) program.definitions

-- the body of the selector at these classes, if it is defined there
abbrev pub body_of : List Definition → ℕ → List ℕ → Option ℕ
body_of definitions selector classes = option_map (λ d. d.body) (find (is_definition selector classes) definitions)
