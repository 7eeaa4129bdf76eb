-- Which class may come next where the queries whose cells may differ are gone through class by class.
use Rattle.std.specs.Prelude.{◌==◌, ℕ, Bool, false, true, ◌&&◌, ◌||◌, if◌then◌else◌, List, [], ◌∷◌, ◌++◌, length, IsTrue}
use Rattle.std.specs.List.{list_any}
use Rattle.dt_graph.specs.Graph.{Link, has_number}
use Rattle.dt_graph.specs.Below.{is_below}
use Rattle.dt_definitions.specs.Program.{Program, definitions_of}
use Rattle.dt_definitions.specs.declared.definition_key.DefinitionKey.{DefinitionKey}
use Rattle.dt_scratch.specs.declared.reply.Answer.{Answer}
use Rattle.dt_scratch.specs.declared.reply.Answer.TheVariants.{Method, NotUnderstood, Ambiguous}
use Rattle.dt_scratch.specs.declared.reply.Change.{Change}
use Rattle.dt_scratch.specs.Query.{Query}
use Rattle.dt_scratch.specs.Resolve.{cell}
use Rattle.dt_propagate.specs.Differences.{Differs}
use Rattle.dt_propagate.specs.declared.near.Near.{Near}

-- whether the two answers are the same
abbrev pub is_same_answer : Answer → Answer → Bool
is_same_answer (Method a) (Method b) = a == b
is_same_answer NotUnderstood NotUnderstood = true
is_same_answer Ambiguous Ambiguous = true
is_same_answer a b = false

-- the change of a query: nothing where its cell is the same in both programs, else its new cell
abbrev pub told_change : Program → Program → Query → List Change
told_change old new query =
    if is_same_answer (cell old query) (cell new query) then [] else record { query = query; answer = cell new query } ∷ []

-- whether one of the classes is above a marked one of its position
abbrev pub is_any_above : List Near → List ℕ → Bool
is_any_above [] highs = false
is_any_above (near ∷ nears) [] = false
is_any_above (near ∷ nears) (high ∷ highs) = has_number near.above high || is_any_above nears highs

-- whether no class is marked at any position, and none is above one
abbrev pub is_unmarked : List Near → Bool
is_unmarked [] = true
is_unmarked (near ∷ nears) = (length near.marked == 0) && ((length near.above == 0) && is_unmarked nears)

-- Whether the class goes on from the prefix below these classes; and unless a marked one was met, it is marked or a marked
-- one may still come.
abbrev pub goes_on : List Link → List Near → Bool → List ℕ → List ℕ → ℕ → Bool
goes_on links [] is_met highs prefix class = false
goes_on links (near ∷ nears) is_met [] prefix class = false
goes_on links (near ∷ nears) is_met (high ∷ highs) [] class =
    is_below links class high && ((is_met || is_any_above nears highs) || has_number near.marked class)
goes_on links (near ∷ nears) is_met (high ∷ highs) (first ∷ prefix) class =
    is_below links first high && goes_on links nears (is_met || has_number near.marked first) highs prefix class

-- whether it goes on so below one of the selector's definitions
abbrev pub goes_on_defined : Program → ℕ → List Near → List ℕ → ℕ → Bool
goes_on_defined program selector nears prefix class =
    list_any (λ d. goes_on program.graph.links nears false d.classes prefix class) (definitions_of program selector)

-- or below one of these keys of the selector, where no class need be marked
abbrev pub goes_on_redefined : Program → ℕ → List DefinitionKey → List Near → List ℕ → ℕ → Bool
goes_on_redefined program selector keys nears prefix class =
    list_any (λ key. (key.selector == selector) && goes_on program.graph.links nears true key.classes prefix class) keys

-- whether it goes on so in the program, and in one of two
abbrev pub goes_on_in : Program → ℕ → List DefinitionKey → List Near → List ℕ → ℕ → Bool
goes_on_in program selector keys nears prefix class =
    goes_on_defined program selector nears prefix class || goes_on_redefined program selector keys nears prefix class

abbrev pub goes_next : Program → Program → ℕ → List DefinitionKey → List Near → List ℕ → ℕ → Bool
goes_next old new selector keys nears prefix class =
    goes_on_in old selector keys nears prefix class || goes_on_in new selector keys nears prefix class

-- of all queries of the selector whose cells differ, each class goes on from those before it
abbrev pub GoesThroughAll : Program → Program → ℕ → List DefinitionKey → List Near → Type 0
GoesThroughAll old new selector keys nears = (prefix : List ℕ) (class : ℕ) (rest : List ℕ) →
    Differs old new (record { selector = selector; classes = prefix ++ class ∷ rest }) →
    IsTrue (goes_next old new selector keys nears prefix class)
