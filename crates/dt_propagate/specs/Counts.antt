-- What a program understands and its rows, as what the boxes of its definitions hold.
use Rattle.std.specs.Prelude.{◌↔◌, ℕ, ◌≤◌, Bool, true, false, ◌&&◌, IsTrue, List, [], ◌∷◌, length, map}
use Rattle.std.specs.List.{Contains, list_any}
use Rattle.dt_graph.specs.Graph.{has_number}
use Rattle.dt_graph.specs.Descendants.{descendants}
use Rattle.dt_definitions.specs.Program.{Definition, Program, definitions_of}
use Rattle.dt_definitions.specs.Lawful.{Lawful}
use Rattle.dt_scratch.specs.Query.{Query}
use Rattle.dt_propagate.specs.Boxes.{Box, is_within_any}
use Rattle.dt_propagate.specs.Understood.{Understands, IsRow}

-- the box of a definition: for each position the live classes at or below its class there
abbrev pub box_of : Program → Definition → Box
box_of program d = record { sets = map (descendants program.graph) d.classes; needs_marked = false }

-- the boxes of a selector's definitions
abbrev pub boxes_of : Program → ℕ → List Box
boxes_of program selector = map (box_of program) (definitions_of program selector)

-- whether the classes are in the first sets, each in that of its position, and a set is left
abbrev pub is_begun : List (List ℕ) → List ℕ → Bool
is_begun [] classes = false
is_begun (set ∷ sets) [] = true
is_begun (set ∷ sets) (class ∷ classes) = has_number set class && is_begun sets classes

-- whether they are in the first sets of one of the boxes
abbrev pub is_begun_any : List Box → List ℕ → Bool
is_begun_any boxes classes = list_any (λ box. is_begun box.sets classes) boxes

-- what is understood is what the boxes of the selector's definitions hold
abbrev pub UnderstoodIsHeld : Type 0
UnderstoodIsHeld = (program : Program) → Lawful program → (query : Query) →
    Understands program query ↔ IsTrue (is_within_any [] (boxes_of program query.selector) query.classes)

-- and a row is what is in the first sets of one of them
abbrev pub RowsAreBegun : Type 0
RowsAreBegun = (program : Program) → Lawful program → (prefix : Query) →
    IsRow program prefix ↔ IsTrue (is_begun_any (boxes_of program prefix.selector) prefix.classes)

-- no element equals a later one
abbrev pub NoneTwice : {T : Type 0} → List T → Type 0
NoneTwice [] = Unit {0}
NoneTwice (x ∷ xs) = (Contains xs x → ⊥) × NoneTwice xs

-- a list with none twice is no longer than one that has all its elements
abbrev pub PartsAreNoLonger : Type 0
PartsAreNoLonger = (part all : List Query) → NoneTwice part → ((x : Query) → Contains part x → Contains all x) →
    length part ≤ length all
