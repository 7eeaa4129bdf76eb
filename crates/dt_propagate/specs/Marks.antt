-- Which classes are marked at a position, so that a query with no marked class keeps its cell but for definitions that differ.
use Rattle.std.specs.Prelude.{◌≡◌, ◌==◌, ℕ, zero, suc, ◌<◌, Bool, false, true, ◌&&◌, ◌||◌, not, IsTrue, List, [], ◌∷◌, filter}
use Rattle.std.specs.List.{list_any}
use Rattle.dt_graph.specs.Graph.{Link, has_number}
use Rattle.dt_graph.specs.Below.{is_below}
use Rattle.dt_definitions.specs.Program.{Program, definitions_of}
use Rattle.dt_definitions.specs.Lawful.{Lawful}
use Rattle.dt_definitions.specs.Differing.{OthersStayDefined}
use Rattle.dt_definitions.specs.declared.definition_key.DefinitionKey.{DefinitionKey}
use Rattle.dt_propagate.specs.declared.near.Near.{Near}

-- whether the class stands at this position of the list, counted from 0
abbrev pub has_at : List ℕ → ℕ → ℕ → Bool
has_at [] position class = false
has_at (first ∷ classes) zero class = first == class
has_at (first ∷ classes) (suc position) class = has_at classes position class

-- whether a definition of the selector names the class at this position, in one of two programs
abbrev pub names_at : Program → ℕ → ℕ → ℕ → Bool
names_at program selector position class = list_any (λ d. has_at d.classes position class) (definitions_of program selector)

abbrev pub is_named_at : Program → Program → ℕ → ℕ → ℕ → Bool
is_named_at old new selector position class = names_at old selector position class || names_at new selector position class

-- whether the first is below the second by one of the two lists of links, and whether by one of them alone
abbrev pub is_below_in : List Link → List Link → ℕ → ℕ → Bool
is_below_in old new low high = is_below old low high || is_below new low high

abbrev pub is_moved : List Link → List Link → ℕ → ℕ → Bool
is_moved old new low high =
    (is_below old low high && not (is_below new low high)) || (is_below new low high && not (is_below old low high))

-- two programs that differ in the definitions at these keys, and in what is above these classes
pub record DifferNear (old new : Program) (keys : List DefinitionKey) (edited : List ℕ) : Type 0 where
  pub old_lawful : Lawful old
  pub new_lawful : Lawful new
  pub definitions : OthersStayDefined keys old.definitions new.definitions
  pub others : (low high : ℕ) → has_number edited low ≡ false →
      is_below old.graph.links low high ≡ is_below new.graph.links low high

-- two programs that differ in the definitions at these keys, and in what is below these classes
pub record DifferBelow (old new : Program) (keys : List DefinitionKey) (moved : List ℕ) : Type 0 where
  pub old_lawful : Lawful old
  pub new_lawful : Lawful new
  pub definitions : OthersStayDefined keys old.definitions new.definitions
  pub others : (low high : ℕ) → has_number moved high ≡ false →
      is_below old.graph.links low high ≡ is_below new.graph.links low high

-- a class that isn't marked at the position is below the same classes that are named there, and those are in the same
-- order; and from the second position on, all that are above a marked one are listed
pub record NearTells (old new : Program) (selector position : ℕ) (near : Near) : Type 0 where
  pub same_above : (class high : ℕ) → has_number near.marked class ≡ false →
      IsTrue (is_named_at old new selector position high) →
      is_below old.graph.links class high ≡ is_below new.graph.links class high
  pub same_order : (class a b : ℕ) → has_number near.marked class ≡ false →
      IsTrue (is_named_at old new selector position a) → IsTrue (is_named_at old new selector position b) →
      is_below old.graph.links class a ≡ true → is_below old.graph.links a b ≡ is_below new.graph.links a b
  pub listed_above : 0 < position → (class high : ℕ) → IsTrue (has_number near.marked class) →
      IsTrue (is_below_in old.graph.links new.graph.links class high) → IsTrue (has_number near.above high)

-- so for each position, from the given one on
abbrev pub NearsTell : Program → Program → ℕ → ℕ → List Near → Type 0
NearsTell old new selector position [] = Unit {0}
NearsTell old new selector position (near ∷ nears) =
    NearTells old new selector position near × NearsTell old new selector (suc position) nears

-- of the keys at which the definitions differ these are the selector's
pub record HasOwnKeys (old new : Program) (selector : ℕ) (own : List DefinitionKey) (moved : List ℕ) : Type 0 where
  pub all : List DefinitionKey
  pub differ : DifferBelow old new all moved
  pub own_is : own ≡ filter (λ key. key.selector == selector) all
