-- How the list of selectors is kept: a row for each number, with the arity of the selector that is live there.
use Rattle.std.specs.Prelude.{ℕ, ◌+◌, ◌<◌, ◌≤◌, List, [], ◌∷◌, Option, None, Some, IfSome, All}
use Rattle.dt_selectors.specs.Selectors.{Selector}

-- the selectors that are live in the rows, of which the first has this number
abbrev pub selectors_from : ℕ → List (Option ℕ) → List Selector
selectors_from number [] = []
selectors_from number (None ∷ rows) = selectors_from (number + 1) rows
selectors_from number (Some arity ∷ rows) =
    record { number = number; arity = arity } ∷ selectors_from (number + 1) rows

-- each arity in the rows is from 1 to 4
abbrev pub AritiesInRange : List (Option ℕ) → Type 0
AritiesInRange rows = All (λ row. IfSome row (λ arity. (0 < arity) × (arity ≤ 4))) rows
