-- How the definitions are kept: a row for each selector, in ascending order of class lists.
use Rattle.std.specs.Prelude.{◌≡◌, ◌==◌, ℕ, Bool, false, ◌≤◌, ◌+◌, ◌<◌, IsTrue, List, [], ◌∷◌, ◌++◌, length, Option, Result, map, filter, slice_index}
use Rattle.std.specs.List.{list_any}
use Rattle.std.specs.Option.{option_map}
use Rattle.dt_graph.specs.Graph.{has_number}
use Rattle.dt_graph.specs.InOrder.{Ascends, find_at}
use Rattle.dt_graph.specs.declared.limits.TheConstants.{CLASSES}
use Rattle.dt_selectors.specs.declared.limits.TheConstants.{SELECTORS}
use Rattle.dt_definitions.specs.Lawful.{AscendingDefinitions}
use Rattle.dt_definitions.specs.Search.{Searched}
use Rattle.dt_definitions.specs.Naming.{NamingList, naming, keys_at}
use Rattle.dt_definitions.specs.Program.{Definition, same_classes, are_classes_before, is_definition}
use Rattle.dt_definitions.specs.declared.defined.Defined.{Defined}

-- a selector's definitions, and how many of them there is room for without more memory
pub record SelectorList : Type 0 where
  pub defined : List Defined
  pub room : ℕ

-- for how many definitions there is room: of each selector, and that name each class
pub record Rooms : Type 0 where
  pub of_selectors : List ℕ
  pub of_classes : List ℕ

-- the definitions of all selectors, and for how many there is room
pub record Definitions : Type 0 where
  pub all : List Definition
  pub rooms : Rooms

-- the definition, with its selector put back
abbrev pub definition_of : ℕ → Defined → Definition
definition_of selector d = record { selector = selector; classes = d.classes; body = d.body }

abbrev pub with_selector : ℕ → List Defined → List Definition
with_selector selector row = map (definition_of selector) row

-- the definitions of the rows, of which the first is this selector's
abbrev pub definitions_from : ℕ → List SelectorList → List Definition
definitions_from selector [] = []
definitions_from selector (row ∷ rows) = with_selector selector row.defined ++ definitions_from (selector + 1) rows

abbrev pub rooms_of : List SelectorList → List ℕ
rooms_of rows = map (λ row. row.room) rows

abbrev pub rooms_in : List NamingList → List ℕ
rooms_in lists = map (λ list. list.room) lists

-- what the rows of all selectors, from the first, and the lists of all classes stand for
abbrev pub shown_by : List SelectorList → List NamingList → Definitions
shown_by rows lists = record {
  all = definitions_from 0 rows;
  rooms = record { of_selectors = rooms_of rows; of_classes = rooms_in lists };
}

-- a row is searched by its classes
abbrev pub classes_at : Defined → List ℕ
classes_at d = d.classes

abbrev pub are_same : List ℕ → List ℕ → Bool
are_same wanted classes = same_classes classes wanted

-- each definition of the row stands before the next
abbrev pub ListAscends : List Defined → Type 0
ListAscends row = Ascends classes_at are_classes_before row

-- the body at these classes, if they are defined in the row
abbrev pub body_in : List Defined → List ℕ → Option ℕ
body_in row classes = option_map (λ d. d.body) (find_at classes_at are_same classes row)

-- what a search of the row for the classes answers
abbrev pub ListSearched : List Defined → List ℕ → Result ℕ ℕ → Type 0
ListSearched row classes answer = Searched classes_at are_classes_before are_same classes row answer

-- the selector's row has room for one more definition
abbrev pub HasListRoom : List Definition → List ℕ → ℕ → Type 0
HasListRoom all rooms selector = length (filter (λ d. d.selector == selector) all) < slice_index rooms selector

-- the selector is defined at these classes already, or its row has room
abbrev pub ListRoomFor : List Definition → List ℕ → ℕ → List ℕ → Type 0
ListRoomFor all rooms selector classes = list_any (is_definition selector classes) all ≡ false → HasListRoom all rooms selector

-- the lists of these classes have room for one more definition
abbrev pub HasNamingRoom : List Definition → List ℕ → List ℕ → Type 0
HasNamingRoom all rooms classes = (class : ℕ) → class < CLASSES → IsTrue (has_number classes class)
    → length (naming all class) < slice_index rooms class

-- the selector is defined at these classes already, or there is room for it
abbrev pub HasRoomFor : Definitions → ℕ → List ℕ → Type 0
HasRoomFor definitions selector classes = list_any (is_definition selector classes) definitions.all ≡ false
    → HasListRoom definitions.all definitions.rooms.of_selectors selector
    × HasNamingRoom definitions.all definitions.rooms.of_classes classes

-- each has as much room as before, or more
abbrev pub NoneShrinks : List ℕ → List ℕ → Type 0
NoneShrinks old new = (place : ℕ) → slice_index old place ≤ slice_index new place

abbrev pub RoomStays : Rooms → Rooms → Type 0
RoomStays old new = NoneShrinks old.of_selectors new.of_selectors × NoneShrinks old.of_classes new.of_classes

-- no row has a definition
abbrev pub NoneDefined : List SelectorList → Type 0
NoneDefined [] = Unit {0}
NoneDefined (row ∷ rows) = (row.defined ≡ []) × NoneDefined rows

-- row by row, the definitions are the same
abbrev pub HaveSameDefinitions : List SelectorList → List SelectorList → Type 0
HaveSameDefinitions [] [] = Unit {0}
HaveSameDefinitions [] (new ∷ news) = ⊥
HaveSameDefinitions (row ∷ rows) [] = ⊥
HaveSameDefinitions (row ∷ rows) (new ∷ news) = (new.defined ≡ row.defined) × HaveSameDefinitions rows news

-- what holds of a table: a row for each selector; the number of definitions; for each class those that name it
pub record DefinitionsKept (rows : List SelectorList) (count : ℕ) (lists : List NamingList) : Type 0 where
  pub all_selectors : length rows ≡ SELECTORS
  pub counted : count ≡ length (definitions_from 0 rows)
  pub named : (class : ℕ) → class < CLASSES → keys_at lists class ≡ naming (definitions_from 0 rows) class
  pub ascends : AscendingDefinitions (definitions_from 0 rows)
