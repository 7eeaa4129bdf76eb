-- The candidates of a program, as what the boxes of its definitions hold.
use Rattle.std.specs.Prelude.{◌≡◌, ℕ, not, IsTrue, List, map}
use Rattle.dt_graph.specs.Graph.{Graph, has_number, is_live}
use Rattle.dt_graph.specs.Descendants.{descendants}
use Rattle.dt_definitions.specs.Program.{Definition, Program, definitions_of}
use Rattle.dt_definitions.specs.declared.definition_key.DefinitionKey.{DefinitionKey}
use Rattle.dt_definitions.specs.Differing.{is_at_any}
use Rattle.dt_graph.specs.LinkChanges.{is_below_any}
use Rattle.dt_definitions.specs.Lawful.{Lawful}
use Rattle.dt_scratch.specs.Query.{Query}
use Rattle.dt_propagate.specs.Boxes.{Box, is_within_any}
use Rattle.dt_scratch.specs.Locality.{is_candidate}

-- the box of a definition: where it is one that differs, all queries below it, else those that have a marked class
abbrev pub candidate_box : List DefinitionKey → Program → Definition → Box
candidate_box redefined program d =
    record { sets = map (descendants program.graph) d.classes; needs_marked = not (is_at_any redefined d) }

-- of the live classes those are marked that are at or below one of these
abbrev pub MarksBelow : List ℕ → Graph → List ℕ → Type 0
MarksBelow edited graph marked = (class : ℕ) → IsTrue (is_live graph class) →
    has_number marked class ≡ is_below_any graph.links edited class

-- a query is a candidate where one of the boxes has it
abbrev pub CandidatesAreHeld : Type 0
CandidatesAreHeld = (edited marked : List ℕ) (redefined : List DefinitionKey) (program : Program) → Lawful program →
    MarksBelow edited program.graph marked → (query : Query) →
    is_candidate edited redefined program query
    ≡ is_within_any marked (map (candidate_box redefined program) (definitions_of program query.selector)) query.classes
