-- The sizes that are kept are no less than the cells and the rows.
use Rattle.std.proofs.Common.{◌≡◌, ℕ, ◌+◌, ◌<◌, ◌≤◌, List, ◌++◌, length, ⊎_elim, arith}
use Rattle.std.specs.Prelude.{min, nat_le}
use Rattle.std.specs.List.{list_any, sum_by}
use Rattle.std.proofs.lemmas.Bool.Decides.{nat_tests}
use Rattle.dt_graph.specs.Graph.{has_number}
use Rattle.dt_graph.proofs.ListMembers.{by_cases, In, In-append, In-later, In-from_Contains, Contains-from_In, All-In}
use Rattle.dt_definitions.specs.Program.{Program}
use Rattle.dt_definitions.specs.declared.definition_key.DefinitionKey.{DefinitionKey}
use Rattle.dt_scratch.specs.Query.{Query, query_order}
use Rattle.dt_propagate.specs.Begun.{told_cell, told_row, row_lengths}
use Rattle.dt_propagate.specs.Bounds.{cells_gained, is_gained, made_cells, made_rows, rows_gained, AreBoundsOf}
use Rattle.dt_propagate.specs.Counted.{greatest}
use Rattle.dt_propagate.specs.Differences.{AreAll, MoreThan}
use Rattle.dt_propagate.specs.GoneThrough.{all_arities, told_of_all}
use Rattle.dt_propagate.specs.Limits.{AreSizesOf, HasMoreCellsThan, HasMoreRowsThan}
use Rattle.dt_propagate.specs.Marks.{DifferNear}
use Rattle.dt_propagate.specs.Understood.{Understands, IsRow}
use Rattle.dt_propagate.specs.declared.limits.TheConstants.{CELLS, ROWS}
use Rattle.dt_propagate.specs.declared.sizes.Sizes.{Sizes}
use Rattle.dt_propagate.proofs.BoxSizes.{length-both}
use Rattle.dt_propagate.proofs.CellsAndRows.{cells_all, rows_all}
use Rattle.dt_propagate.proofs.Counts.{parts_are_no_longer}
use Rattle.dt_propagate.proofs.Listed.{listed_by, listed_length}
use Rattle.dt_propagate.proofs.Made.{cells_made, rows_made, cells_made_length, rows_made_length, cells_from, rows_from, cells_from_length, rows_from_length, cells_new, rows_new, cells_covered, rows_covered}
use Rattle.dt_propagate.proofs.MoreThan.{none_twice, more_than_fewer}

-- ---- lists and their lengths

module _ (Holds : Query → Type 0) (all : List Query) where
  -- of no more than are listed
  few_listed : ((query : Query) → Holds query → In all query) → (n : ℕ) → length all ≤ n → MoreThan query_order Holds n → ⊥
  few_listed listed n few more =
      let le = parts_are_no_longer more.0 all (none_twice more.0 more.1)
      (λ x there. Contains-from_In all x (listed x (All-In Holds more.0 x more.2 (In-from_Contains more.0 x there)))) in
      absurd (omega (arith, few, le, more.3))

  -- and those that are all are no more
  all_few : AreAll query_order Holds all → (n : ℕ) → (MoreThan query_order Holds n → ⊥) → length all ≤ n
  all_few are n none = by_cases (nat_le (length all) n)
      (λ t. grind (arith, nat_tests, t))
      (λ f. absurd (none (all, are.ascending, are.each_holds, (let more : n < length all = grind (arith, nat_tests, f) in more))))

-- ---- from the old program on

module _ (old new : Program) (keys : List DefinitionKey) (edited gained : List ℕ) (near : DifferNear old new keys edited)
    (gained_is : (n : ℕ) → has_number gained n ≡ list_any (λ class. is_gained old.graph.links new.graph.links class n) edited)
    (sizes made total : Sizes) (are : AreSizesOf old sizes) where
  cells_grow : made.cells ≡ min (sizes.cells + sum_by (made_cells old new) keys) greatest →
      total.cells ≡ min (made.cells + sum_by (cells_gained old new) gained) greatest → total.cells ≤ CELLS →
      HasMoreCellsThan new total.cells → ⊥
  cells_grow is then low =
      let before = told_of_all (told_cell old) all_arities in
      let few = all_few (Understands old) before (cells_all old near.old_lawful) sizes.cells are.few_cells in
      let both = length-both before (cells_new old new keys edited gained near gained_is) in
      let more = length-both (listed_by (cells_made old new) keys) (listed_by (cells_from old new) gained) in
      let sum = listed_length (cells_made old new) (made_cells old new) (cells_made_length old new) keys in
      let rest = listed_length (cells_from old new) (cells_gained old new) (cells_from_length old new) gained in
      few_listed (Understands new) (before ++ cells_new old new keys edited gained near gained_is)
      (λ query understood. ⊎_elim
      (λ o. In-append before (cells_new old new keys edited gained near gained_is) query
      (In-from_Contains before query ((cells_all old near.old_lawful).none_missing query o)))
      (λ i. In-later before (cells_new old new keys edited gained near gained_is) query i)
      (cells_covered old new keys edited gained near gained_is query understood))
      total.cells (omega (arith, is, then, low, few, both, more, sum, rest))

  rows_grow : made.rows ≡ min (sizes.rows + sum_by (made_rows old new) keys) greatest →
      total.rows ≡ min (made.rows + sum_by (rows_gained old new) gained) greatest → total.rows ≤ ROWS →
      HasMoreRowsThan new total.rows → ⊥
  rows_grow is then low =
      let before = told_of_all (told_row old) row_lengths in
      let few = all_few (IsRow old) before (rows_all old near.old_lawful) sizes.rows are.few_rows in
      let both = length-both before (rows_new old new keys edited gained near gained_is) in
      let more = length-both (listed_by (rows_made old new) keys) (listed_by (rows_from old new) gained) in
      let sum = listed_length (rows_made old new) (made_rows old new) (rows_made_length old new) keys in
      let rest = listed_length (rows_from old new) (rows_gained old new) (rows_from_length old new) gained in
      few_listed (IsRow new) (before ++ rows_new old new keys edited gained near gained_is)
      (λ query row. ⊎_elim
      (λ o. In-append before (rows_new old new keys edited gained near gained_is) query
      (In-from_Contains before query ((rows_all old near.old_lawful).none_missing query o)))
      (λ i. In-later before (rows_new old new keys edited gained near gained_is) query i)
      (rows_covered old new keys edited gained near gained_is query row))
      total.rows (omega (arith, is, then, low, few, both, more, sum, rest))

  pub sizes_grow : made.cells ≡ min (sizes.cells + sum_by (made_cells old new) keys) greatest →
      made.rows ≡ min (sizes.rows + sum_by (made_rows old new) keys) greatest →
      total.cells ≡ min (made.cells + sum_by (cells_gained old new) gained) greatest →
      total.rows ≡ min (made.rows + sum_by (rows_gained old new) gained) greatest → AreBoundsOf new total
  sizes_grow cells rows more_cells more_rows = record { few_cells = cells_grow cells more_cells; few_rows = rows_grow rows more_rows }

-- ---- within the limits

-- what was kept of a bound is a size
module _ (program : Program) (bound : Sizes) (are : AreBoundsOf program bound) (sizes : Sizes)
    (cells : (bound.cells ≤ CELLS → HasMoreCellsThan program bound.cells → ⊥) → HasMoreCellsThan program sizes.cells → ⊥)
    (rows : (bound.rows ≤ ROWS → HasMoreRowsThan program bound.rows → ⊥) → HasMoreRowsThan program sizes.rows → ⊥) where
  pub kept_sizes : AreSizesOf program sizes
  kept_sizes = record { few_cells = cells are.few_cells; few_rows = rows are.few_rows }

-- and within the limits none is passed
pub few_cells : (program : Program) (cells : ℕ) → cells ≤ CELLS → (HasMoreCellsThan program cells → ⊥) → HasMoreCellsThan program CELLS → ⊥
few_cells program cells low few more = few (more_than_fewer (Understands program) cells CELLS low more)

pub few_rows : (program : Program) (rows : ℕ) → rows ≤ ROWS → (HasMoreRowsThan program rows → ⊥) → HasMoreRowsThan program ROWS → ⊥
few_rows program rows low few more = few (more_than_fewer (IsRow program) rows ROWS low more)
