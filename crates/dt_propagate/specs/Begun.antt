-- The lists of classes that begin below the definitions of a selector, as they are counted.
use Rattle.std.specs.Prelude.{ℕ, Bool, false, true, ◌&&◌, nat_lt, nat_le, if◌then◌else◌, List, [], ◌∷◌, length, Option, None, Some}
use Rattle.std.specs.List.{list_any}
use Rattle.std.specs.Option.{option_map_or}
use Rattle.dt_graph.specs.Graph.{Link}
use Rattle.dt_graph.specs.Below.{is_below}
use Rattle.dt_definitions.specs.Program.{Program, arity_of, definitions_of}
use Rattle.dt_scratch.specs.Query.{Query}
use Rattle.dt_propagate.specs.declared.part.Part.{Part}
use Rattle.dt_propagate.specs.declared.part.Part.TheVariants.{Cells, Rows}
use Rattle.dt_propagate.specs.GoneThrough.{all_arities, told_of}
use Rattle.dt_propagate.specs.Touched.{takes}
use Rattle.dt_propagate.specs.Understood.{Understands, IsRow}

-- whether each class is below the one in the same position; there may be fewer
abbrev pub begins : List Link → List ℕ → List ℕ → Bool
begins links [] highs = true
begins links (class ∷ classes) [] = false
begins links (class ∷ classes) (high ∷ highs) = is_below links class high && begins links classes highs

-- whether the query's classes begin so below one of the definitions of its selector
abbrev pub is_begun_query : Program → Query → Bool
is_begun_query program query =
    list_any (λ d. begins program.graph.links query.classes d.classes) (definitions_of program query.selector)

-- the query itself, if they do
abbrev pub told_begun : Program → Query → List Query
told_begun program query = if is_begun_query program query then query ∷ [] else []

-- whether the class goes on from the prefix below these classes
abbrev pub goes_begun : List Link → List ℕ → List ℕ → ℕ → Bool
goes_begun links [] prefix class = false
goes_begun links (high ∷ highs) [] class = is_below links class high
goes_begun links (high ∷ highs) (first ∷ prefix) class = is_below links first high && goes_begun links highs prefix class

-- the number, if it is at most this
abbrev pub up_to : ℕ → ℕ → Option ℕ
up_to most n = if nat_le n most then Some n else None

-- the query itself, if its selector takes so many classes and it begins below one of the definitions: a cell
abbrev pub told_cell : Program → Query → List Query
told_cell program query =
    if takes program query.selector (length query.classes) && is_begun_query program query then query ∷ [] else []

-- how many arguments the selector takes; 0 where it isn't live
abbrev pub arity_or_none : Program → ℕ → ℕ
arity_or_none program selector = option_map_or (λ arity. arity) (arity_of program selector) 0

-- whether the selector takes more arguments
abbrev pub takes_more : Program → ℕ → ℕ → Bool
takes_more program selector count = option_map_or (λ arity. nat_lt count arity) (arity_of program selector) false

-- the query itself, if its selector takes more classes and it begins below one of the definitions: a row
abbrev pub told_row : Program → Query → List Query
told_row program query =
    if takes_more program query.selector (length query.classes) && is_begun_query program query then query ∷ [] else []

-- how many classes a row can have
unfoldable pub row_lengths : List ℕ
row_lengths = 0 ∷ 1 ∷ 2 ∷ 3 ∷ []

-- ---- cells and rows alike

-- what the program has of the part
abbrev pub HasPart : Program → Part → Query → Type 0
HasPart program Cells = Understands program
HasPart program Rows = IsRow program

-- what the selector has of it, one after the other
abbrev pub told_part : Program → Part → ℕ → List Query
told_part program Cells = told_of (told_cell program) all_arities
told_part program Rows = told_of (told_row program) row_lengths
