-- Marks for each position: a class is marked there if it sees other classes of the definitions, or another order of them.
use Rattle.std.specs.Prelude.{◌≡◌, ℕ, ◌+◌, Bool, true, false, ◌&&◌, ◌||◌, IsTrue, List, [], ◌∷◌}
use Rattle.std.specs.List.{Contains, list_any}
use Rattle.dt_graph.specs.Below.{is_below}
use Rattle.dt_definitions.specs.Program.{Definition, Program}
use Rattle.dt_definitions.specs.declared.definition_key.DefinitionKey.{DefinitionKey}
use Rattle.dt_definitions.specs.Lawful.{Lawful}
use Rattle.dt_scratch.specs.Query.{Query}
use Rattle.dt_scratch.specs.Resolve.{applicable, cell}
use Rattle.dt_definitions.specs.Differing.{OthersStayDefined, is_at_any}

-- whether one of the classes is marked at its position, and whether all are named at theirs
abbrev pub is_marked : (ℕ → ℕ → Bool) → ℕ → List ℕ → Bool
is_marked marked position [] = false
is_marked marked position (class ∷ classes) = marked position class || is_marked marked (position + 1) classes

abbrev pub are_named : (ℕ → ℕ → Bool) → ℕ → List ℕ → Bool
are_named named position [] = true
are_named named position (class ∷ classes) = named position class && are_named named (position + 1) classes

-- the classes of the selector's definitions are named at their positions
abbrev pub NamesAll : (ℕ → ℕ → Bool) → ℕ → Program → Type 0
NamesAll named selector program = (d : Definition) → Contains program.definitions d → d.selector ≡ selector → IsTrue (are_named named 0 d.classes)

-- a class that isn't marked is below the same named classes, and those are in the same order
pub record MarksTell (marked named : ℕ → ℕ → Bool) (old new : Program) : Type 0 where
  pub same_above : (position class high : ℕ) → marked position class ≡ false → IsTrue (named position high) →
      is_below old.graph.links class high ≡ is_below new.graph.links class high
  pub same_order : (position class a b : ℕ) → marked position class ≡ false → IsTrue (named position a) → IsTrue (named position b) →
      is_below old.graph.links class a ≡ true → is_below old.graph.links a b ≡ is_below new.graph.links a b

abbrev pub is_marked_candidate : (ℕ → ℕ → Bool) → List DefinitionKey → Program → Query → Bool
is_marked_candidate marked redefined program query =
    list_any (λ d. is_marked marked 0 query.classes || is_at_any redefined d) (applicable program query)

-- a query that is no candidate by these marks has the same cell in both
abbrev pub FinerMarksServe : Type 0
FinerMarksServe = (marked named : ℕ → ℕ → Bool) (redefined : List DefinitionKey) (old new : Program) → Lawful old → Lawful new →
    OthersStayDefined redefined old.definitions new.definitions → MarksTell marked named old new → (query : Query) →
    NamesAll named query.selector old → NamesAll named query.selector new →
    is_marked_candidate marked redefined old query ≡ false → is_marked_candidate marked redefined new query ≡ false →
    cell old query ≡ cell new query
