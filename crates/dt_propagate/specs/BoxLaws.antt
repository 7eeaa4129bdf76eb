-- What boxes hold: exactly the lists of classes that are of one of them, in order, and no more than each by itself.
use Rattle.std.specs.Prelude.{◌≡◌, ℕ, ◌≤◌, IsTrue, List, [], ◌∷◌, length, All}
use Rattle.std.specs.List.{Contains}
use Rattle.dt_graph.specs.Graph.{has_number}
use Rattle.dt_graph.specs.Lawful.{AscendingNumbers}
use Rattle.dt_definitions.specs.Program.{are_classes_before}
use Rattle.dt_propagate.specs.Boxes.{Box, is_within_any, within, sum_of_sizes}

-- exactly the lists of so many classes that are of one of the boxes
pub record HoldExactly (universe marked : List ℕ) (k : ℕ) (boxes : List Box) : Type 0 where
  pub sound : (classes : List ℕ) → Contains (within universe marked k boxes) classes →
      IsTrue (is_within_any marked boxes classes) × (length classes ≡ k)
  pub complete : (classes : List ℕ) → IsTrue (is_within_any marked boxes classes) → length classes ≡ k →
      All (λ class. IsTrue (has_number universe class)) classes → Contains (within universe marked k boxes) classes

-- each before all that follow
abbrev pub EachBeforeLater : List (List ℕ) → Type 0
EachBeforeLater [] = Unit {0}
EachBeforeLater (a ∷ rest) = All (λ b. IsTrue (are_classes_before a b)) rest × EachBeforeLater rest

abbrev pub BoxesHoldExactly : Type 0
BoxesHoldExactly = (universe marked : List ℕ) (k : ℕ) (boxes : List Box) → HoldExactly universe marked k boxes

abbrev pub BoxesAscend : Type 0
BoxesAscend = (universe marked : List ℕ) (k : ℕ) (boxes : List Box) → AscendingNumbers universe →
    EachBeforeLater (within universe marked k boxes)

-- together boxes hold no more lists than each by itself
abbrev pub BoxesHoldNoMore : Type 0
BoxesHoldNoMore = (universe marked : List ℕ) (k : ℕ) (boxes : List Box) → AscendingNumbers universe →
    length (within universe marked k boxes) ≤ sum_of_sizes boxes
