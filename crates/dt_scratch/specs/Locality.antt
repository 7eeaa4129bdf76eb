-- Which queries an edit concerns, and which are candidates to differ between two programs.
use Rattle.std.specs.Prelude.{◌==◌, ℕ, Bool, ◌&&◌, ◌||◌, List}
use Rattle.std.specs.List.{list_any}
use Rattle.dt_graph.specs.Graph.{Link}
use Rattle.dt_graph.specs.Below.{is_below}
use Rattle.dt_graph.specs.LinkChanges.{is_below_any}
use Rattle.dt_definitions.specs.Program.{Program}
use Rattle.dt_definitions.specs.declared.definition_key.DefinitionKey.{DefinitionKey}
use Rattle.dt_definitions.specs.Differing.{is_at_any}
use Rattle.dt_definitions.specs.declared.edit.Edit.{Edit}
use Rattle.dt_definitions.specs.declared.edit.Edit.TheVariants as edit
use Rattle.dt_scratch.specs.Query.{Query}
use Rattle.dt_scratch.specs.Resolve.{are_below, applicable}

-- whether one of the query's classes is at or below the class
abbrev pub reaches_up_to : List Link → ℕ → Query → Bool
reaches_up_to links class query = list_any (λ low. is_below links low class) query.classes

-- whether the query is of the selector, and each of its classes at or below the one in the same position
abbrev pub is_below_key : List Link → ℕ → List ℕ → Query → Bool
is_below_key links selector classes query = (selector == query.selector) && are_below links query.classes classes

-- Whether the edit concerns the query: of a class that comes, goes, is linked or unlinked, the queries with a class at or
-- below it; of a selector that comes or goes, its own; of a definition, those of its selector that are below its classes.
abbrev pub concerns : List Link → Edit → Query → Bool
concerns links (edit.AddClass class parents) query = reaches_up_to links class query
concerns links (edit.DropClass class) query = reaches_up_to links class query
concerns links (edit.Link class parent) query = reaches_up_to links class query
concerns links (edit.Unlink class parent) query = reaches_up_to links class query
concerns links (edit.AddSelector selector arity) query = selector == query.selector
concerns links (edit.DropSelector selector) query = selector == query.selector
concerns links (edit.Define selector classes body) query = is_below_key links selector classes query
concerns links (edit.Undefine selector classes) query = is_below_key links selector classes query

-- whether one of the edits of the batch does
abbrev pub batch_concerns : List Link → List Edit → Query → Bool
batch_concerns links edits query = list_any (λ one. concerns links one query) edits

-- whether one of the classes is at or below one of these
abbrev pub meets : List Link → List ℕ → List ℕ → Bool
meets links edited classes = list_any (is_below_any links edited) classes

-- whether a definition of the program is applicable to the query, and either it is one that differs, or the query has a
-- class at or below one whose links differ
abbrev pub is_candidate : List ℕ → List DefinitionKey → Program → Query → Bool
is_candidate edited redefined program query =
    list_any (λ d. meets program.graph.links edited query.classes || is_at_any redefined d) (applicable program query)
