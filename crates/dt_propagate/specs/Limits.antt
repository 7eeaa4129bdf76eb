-- The limits of cells and rows, what it says where they are passed, and how many cells and rows a program has at most.
use Rattle.std.specs.Prelude.{ℕ}
use Rattle.dt_definitions.specs.Program.{Program}
use Rattle.dt_scratch.specs.Query.{query_order}
use Rattle.dt_propagate.specs.Differences.{MoreThan}
use Rattle.dt_propagate.specs.Understood.{Understands, IsRow}
use Rattle.dt_propagate.specs.declared.limits.TheConstants.{CELLS, ROWS}
use Rattle.dt_propagate.specs.declared.sizes.Sizes.{Sizes}
use Rattle.dt_propagate.specs.declared.change_fault.ChangeFault.{ChangeFault}
use Rattle.dt_propagate.specs.declared.change_fault.ChangeFault.TheVariants.{CellsFull, RowsFull, NoMemory}

-- the program understands more queries than so many, or has more rows
abbrev pub HasMoreCellsThan : Program → ℕ → Type 0
HasMoreCellsThan program most = MoreThan query_order (Understands program) most

abbrev pub HasMoreRowsThan : Program → ℕ → Type 0
HasMoreRowsThan program most = MoreThan query_order (IsRow program) most

-- it has no more than these
pub record AreSizesOf (program : Program) (sizes : Sizes) : Type 0 where
  pub few_cells : HasMoreCellsThan program sizes.cells → ⊥
  pub few_rows : HasMoreRowsThan program sizes.rows → ⊥

-- it has more than the limit
abbrev pub HasMoreCells : Program → Type 0
HasMoreCells program = HasMoreCellsThan program CELLS

abbrev pub HasMoreRows : Program → Type 0
HasMoreRows program = HasMoreRowsThan program ROWS

-- it has neither
pub record IsWithinLimits (program : Program) : Type 0 where
  pub few_cells : HasMoreCells program → ⊥
  pub few_rows : HasMoreRows program → ⊥

-- it has more rows, but not more cells
pub record HasMoreRowsAlone (program : Program) : Type 0 where
  pub few_cells : HasMoreCells program → ⊥
  pub more_rows : HasMoreRows program

-- what holds of the program where this is answered: cells come before rows, and want of memory says nothing
abbrev pub IsFullBy : Program → ChangeFault → Type 0
IsFullBy program CellsFull = HasMoreCells program
IsFullBy program RowsFull = HasMoreRowsAlone program
IsFullBy program NoMemory = Unit {0}
