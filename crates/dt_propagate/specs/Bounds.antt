-- Bounds of cells and rows that cost little: each definition that is new, or is above more than before, is counted by itself.
use Rattle.std.specs.Prelude.{ℕ, ◌+◌, ◌*◌, ◌≤◌, Bool, ◌&&◌, not, if◌then◌else◌, List, [], ◌∷◌, length, map, filter}
use Rattle.std.specs.List.{sum_by}
use Rattle.dt_graph.specs.Graph.{Graph, Link}
use Rattle.dt_graph.specs.Below.{is_below}
use Rattle.dt_graph.specs.Descendants.{descendants}
use Rattle.dt_definitions.specs.Causes.{has_definition}
use Rattle.dt_definitions.specs.Naming.{naming}
use Rattle.dt_definitions.specs.Program.{Definition, Program, definitions_of}
use Rattle.dt_definitions.specs.declared.definition_key.DefinitionKey.{DefinitionKey}
use Rattle.dt_propagate.specs.Boxes.{size}
use Rattle.dt_propagate.specs.Limits.{HasMoreCellsThan, HasMoreRowsThan}
use Rattle.dt_propagate.specs.declared.limits.TheConstants.{CELLS, ROWS}
use Rattle.dt_propagate.specs.declared.sizes.Sizes.{Sizes}

-- for each class the live classes at or below it
abbrev pub cones : Graph → List ℕ → List (List ℕ)
cones graph classes = map (descendants graph) classes

-- how many lists of classes are in the first of the sets, each class in that of its position; one set at least is left
abbrev pub firsts : List (List ℕ) → ℕ
firsts [] = 0
firsts (set ∷ sets) = 1 + length set * firsts sets

-- those of them that have a class
abbrev pub laters : List (List ℕ) → ℕ
laters [] = 0
laters (set ∷ sets) = length set * firsts sets

-- ---- what is below more than before

-- whether the first is below the second by the new links alone
abbrev pub is_gained : List Link → List Link → ℕ → ℕ → Bool
is_gained old new low high = is_below new low high && not (is_below old low high)

-- the live classes that are below the class in the new graph alone
abbrev pub newly_below : Graph → Graph → ℕ → List ℕ
newly_below old new class = filter (λ low. not (is_below old.links low class)) (descendants new class)

-- how many lists of classes are below these in the new graph with a class that is below that of its position in the new
-- graph alone, each counted once for each such class; and how many of them begin, with one class or more but not all
abbrev pub size_gained : Graph → Graph → List ℕ → ℕ
size_gained old new [] = 0
size_gained old new (high ∷ highs) =
    length (newly_below old new high) * size (cones new highs) + length (descendants new high) * size_gained old new highs

abbrev pub firsts_gained : Graph → Graph → List ℕ → ℕ
firsts_gained old new [] = 0
firsts_gained old new (high ∷ highs) =
    length (newly_below old new high) * firsts (cones new highs) + length (descendants new high) * firsts_gained old new highs

-- of all definitions of the new program that name the class
abbrev pub cells_gained : Program → Program → ℕ → ℕ
cells_gained old new class = sum_by (λ key. size_gained old.graph new.graph key.classes) (naming new.definitions class)

abbrev pub rows_gained : Program → Program → ℕ → ℕ
rows_gained old new class = sum_by (λ key. firsts_gained old.graph new.graph key.classes) (naming new.definitions class)

-- ---- what is new

-- 1 where there is no definition, so that the selector with no class is no row yet
abbrev pub one_if_none : List Definition → ℕ
one_if_none [] = 1
one_if_none (d ∷ definitions) = 0

-- whether the new program alone has a definition there
abbrev pub is_made : Program → Program → DefinitionKey → Bool
is_made old new key = has_definition new key.selector key.classes && not (has_definition old key.selector key.classes)

-- how many cells are below it, and how many rows with it, but for the row that the selector had already
abbrev pub made_cells : Program → Program → DefinitionKey → ℕ
made_cells old new key = if is_made old new key then size (cones new.graph key.classes) else 0

abbrev pub made_rows : Program → Program → DefinitionKey → ℕ
made_rows old new key =
    if is_made old new key then one_if_none (definitions_of old key.selector) + laters (cones new.graph key.classes) else 0

-- ---- what is kept of it

-- where they are within the limits, it has no more than these
pub record AreBoundsOf (program : Program) (sizes : Sizes) : Type 0 where
  pub few_cells : sizes.cells ≤ CELLS → HasMoreCellsThan program sizes.cells → ⊥
  pub few_rows : sizes.rows ≤ ROWS → HasMoreRowsThan program sizes.rows → ⊥
