-- Which cells are used: as they are kept, and as a batch that is being staged makes them.
use Rattle.std.specs.Prelude.{ℕ, ◌+◌, ◌*◌, ◌/◌, ◌%◌, ◌&&◌, Bool, List, nat_lt}
use Rattle.dt_graph.specs.ClassSet.{has_bit}
use Rattle.dt_fit.specs.declared.geometry.Geometry.{Geometry}
use Rattle.dt_fit.specs.declared.geometry.Geometry.TheVariants.{Colours, Displacements}
use Rattle.dt_fit.specs.Geometry.{cell_limit}

-- the bit of a cell: the places of an index are neighbours, so that one word tells of 64 of them
abbrev pub bit_of : Geometry → ℕ → ℕ
bit_of Colours cell = 4096 * (cell % 2048) + cell / 2048
bit_of Displacements cell = cell

-- two states of the cells, each by its words of bits; `is_kept` and `is_tried` say what they mean
pub record Cells : Type 0 where
  pub geometry : Geometry
  pub kept : List ℕ
  pub tried : List ℕ

abbrev pub is_used : Geometry → List ℕ → ℕ → Bool
is_used geometry words cell = nat_lt cell (cell_limit geometry) && has_bit words (bit_of geometry cell)

-- whether the cell is used as the cells are kept
abbrev pub is_kept : Cells → ℕ → Bool
is_kept cells cell = is_used cells.geometry cells.kept cell

-- whether the cell is used in what is tried
abbrev pub is_tried : Cells → ℕ → Bool
is_tried cells cell = is_used cells.geometry cells.tried cell
