-- What is kept of a script while it is made: what its edits name again.
use Rattle.std.specs.Prelude.{◌≡◌, ℕ, ◌<◌, List, [], length, get_or}
use Rattle.dt_script.specs.GeneratedLines.{first_parent, tuple_at}

-- the first parents of the classes of these numbers, of which the first has none
pub record HasFirstParents (number classes : ℕ) (parents : List ℕ) : Type 0 where
  pub of_each : length parents ≡ classes
  pub are_first : (class : ℕ) → 0 < class → class < classes → get_or parents class 0 ≡ first_parent number class

-- the classes of the first definitions, which were drawn from this state on
pub record HasTuples (classes selectors start count : ℕ) (tuples : List (List ℕ)) : Type 0 where
  pub of_each : length tuples ≡ count
  pub are_theirs : (definition : ℕ) → definition < count → get_or tuples definition [] ≡ tuple_at classes selectors start definition
