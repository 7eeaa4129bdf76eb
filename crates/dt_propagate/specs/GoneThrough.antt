-- What is told of every query, one after the other in the order of queries: by selector, by arity, class by class.
use Rattle.std.specs.Prelude.{ℕ, zero, suc, List, [], ◌∷◌, ◌++◌}
use Rattle.std.specs.List.{range_with_len}
use Rattle.dt_graph.specs.declared.limits.TheConstants.{CLASSES}
use Rattle.dt_selectors.specs.declared.limits.TheConstants.{SELECTORS}
use Rattle.dt_scratch.specs.Query.{Query}
use Rattle.dt_propagate.specs.Boxes.{in_turn}

-- the numbers that a class and a selector can have, in order
unfoldable pub all_classes : List ℕ
all_classes = range_with_len 0 CLASSES

unfoldable pub all_selectors : List ℕ
all_selectors = range_with_len 0 SELECTORS

-- what is told of the selector's queries whose classes are the prefix and so many more
abbrev pub told_after : {T : Type 0} → (Query → List T) → ℕ → ℕ → List ℕ → List T
told_after told selector zero prefix = told (record { selector = selector; classes = prefix })
told_after told selector (suc more) prefix =
    in_turn (λ class. told_after told selector more (prefix ++ class ∷ [])) all_classes

-- of all those of the selector that have so many classes, for each of these numbers
abbrev pub told_of : {T : Type 0} → (Query → List T) → List ℕ → ℕ → List T
told_of told arities selector = in_turn (λ arity. told_after told selector arity []) arities

-- and of those of all selectors
abbrev pub told_of_all : {T : Type 0} → (Query → List T) → List ℕ → List T
told_of_all told arities = in_turn (told_of told arities) all_selectors

-- the numbers of arguments that a selector can take
unfoldable pub all_arities : List ℕ
all_arities = 1 ∷ 2 ∷ 3 ∷ 4 ∷ []
