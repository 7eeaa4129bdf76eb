-- Boxes of class lists: a set of classes for each position. What several boxes hold together, in order.
use Rattle.std.specs.Prelude.{ℕ, zero, suc, ◌+◌, ◌*◌, Bool, false, ◌&&◌, not, if◌then◌else◌, List, [], ◌∷◌, ◌++◌, length, map}
use Rattle.std.specs.List.{list_any}
use Rattle.dt_graph.specs.Graph.{has_number}

-- a set of classes for each position; and whether one class at least must be a marked one
pub record Box : Type 0 where
  pub sets : List (List ℕ)
  pub needs_marked : Bool

-- whether the classes are of the box: each in the set of its position, and a marked one among them if the box needs it
abbrev pub is_within : List ℕ → List (List ℕ) → Bool → List ℕ → Bool
is_within marked [] needs_marked [] = not needs_marked
is_within marked [] needs_marked (class ∷ classes) = false
is_within marked (set ∷ sets) needs_marked [] = false
is_within marked (set ∷ sets) needs_marked (class ∷ classes) =
    has_number set class && is_within marked sets (needs_marked && not (has_number marked class)) classes

-- whether the classes are of one of the boxes
abbrev pub is_within_any : List ℕ → List Box → List ℕ → Bool
is_within_any marked boxes classes = list_any (λ box. is_within marked box.sets box.needs_marked classes) boxes

-- what is left of a box after a first class
abbrev pub left_of : List ℕ → ℕ → List (List ℕ) → Bool → List Box → List Box
left_of marked class [] needs_marked rest = rest
left_of marked class (set ∷ sets) needs_marked rest =
    if has_number set class
    then record { sets = sets; needs_marked = needs_marked && not (has_number marked class) } ∷ rest
    else rest

-- and of all boxes
abbrev pub after_class : List ℕ → ℕ → List Box → List Box
after_class marked class [] = []
after_class marked class (box ∷ boxes) = left_of marked class box.sets box.needs_marked (after_class marked class boxes)

-- what the function gives for each class, one after the other
abbrev pub in_turn : {T : Type 0} → (ℕ → List T) → List ℕ → List T
in_turn f [] = []
in_turn f (class ∷ classes) = f class ++ in_turn f classes

-- the lists of so many classes that are of one of the boxes, in order: for each first class those after it
abbrev pub within : List ℕ → List ℕ → ℕ → List Box → List (List ℕ)
within universe marked zero boxes = if is_within_any marked boxes [] then [] ∷ [] else []
within universe marked (suc k) boxes = in_turn
    (λ class. map (λ classes. class ∷ classes) (within universe marked k (after_class marked class boxes))) universe

-- how many lists the sets hold together
abbrev pub size : List (List ℕ) → ℕ
size [] = 1
size (set ∷ sets) = length set * size sets

-- what several boxes hold, each counted by itself
abbrev pub sum_of_sizes : List Box → ℕ
sum_of_sizes [] = 0
sum_of_sizes (box ∷ boxes) = size box.sets + sum_of_sizes boxes
