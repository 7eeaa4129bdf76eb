-- Commits, worked out: two classes, one below the other, and a selector that is defined at the higher one.
use Rattle.std.specs.Prelude.{◌≡◌, true, List, [], ◌∷◌, Some, Ok, Err, refl}
use Rattle.std.proofs.Common.{ap}
use Rattle.dt_graph.specs.Refusal.{cause_if, first_cause}
use Rattle.dt_selectors.specs.Selectors.{Selector}
use Rattle.dt_definitions.specs.Program.{Program, empty_program}
use Rattle.dt_definitions.specs.declared.edit.Edit.{Edit}
use Rattle.dt_definitions.specs.declared.edit.Edit.TheVariants.{AddClass, AddSelector, Define}
use Rattle.dt_definitions.specs.declared.why.Why.TheVariants.{ClassExists}
use Rattle.dt_tables.specs.Listed.{lists_of, cells_of, rows_below, cell_count, row_count, has_more_cells, has_more_rows}
use Rattle.dt_tables.specs.Commit.{committed, limit_passed, after_commits}
use Rattle.dt_tables.specs.declared.commit_fault.CommitFault.TheVariants.{Refused, CellsFull, RowsFull}

abbrev draw : Selector
draw = record { number = 0; arity = 1 }

abbrev beside : Selector
beside = record { number = 1; arity = 2 }

abbrev edits : List Edit
edits = AddClass 0 [] ∷ AddClass 1 (0 ∷ []) ∷ AddSelector 0 1 ∷ AddSelector 1 2 ∷ Define 0 (0 ∷ []) 7 ∷ Define 1 (1 ∷ 0 ∷ []) 8 ∷ []

abbrev made : Program
made = record {
  graph = record { classes = 0 ∷ 1 ∷ []; links = record { class = 1; parent = 0 } ∷ [] };
  selectors = draw ∷ beside ∷ [];
  definitions = record { selector = 0; classes = 0 ∷ []; body = 7 } ∷ record { selector = 1; classes = 1 ∷ 0 ∷ []; body = 8 } ∷ [];
}

pairs : lists_of (0 ∷ 1 ∷ []) 2 ≡ (0 ∷ 0 ∷ []) ∷ (0 ∷ 1 ∷ []) ∷ (1 ∷ 0 ∷ []) ∷ (1 ∷ 1 ∷ []) ∷ []
pairs = refl

-- the one selector is understood at both classes, the other where the first class is 1
cells : cells_of made draw ≡ (0 ∷ []) ∷ (1 ∷ []) ∷ []
cells = refl

cells_of_two : cells_of made beside ≡ (1 ∷ 0 ∷ []) ∷ (1 ∷ 1 ∷ []) ∷ []
cells_of_two = refl

-- a row of no class for each, and one more of the first class
rows : rows_below made draw 1 ≡ [] ∷ []
rows = refl

rows_of_two : rows_below made beside 2 ≡ [] ∷ (1 ∷ []) ∷ []
rows_of_two = refl

four_cells : cell_count made ≡ 4
four_cells = refl

three_rows : row_count made ≡ 3
three_rows = refl

-- the batch is committed
it_stands : committed empty_program edits ≡ Ok made
it_stands = refl

-- an edit that is refused is told with its place, and the program stays
class_exists : committed made (Define 0 (1 ∷ []) 9 ∷ AddClass 0 [] ∷ []) ≡ Err (Refused 2 ClassExists)
class_exists = refl

it_stays : after_commits (edits ∷ (AddClass 0 [] ∷ []) ∷ []) ≡ made
it_stays = refl

-- cells are told before rows
cells_first : (p : Program) → has_more_cells p ≡ true → limit_passed p ≡ Some CellsFull
cells_first p more = ap (λ b. first_cause (cause_if b CellsFull ∷ cause_if (has_more_rows p) RowsFull ∷ [])) more
