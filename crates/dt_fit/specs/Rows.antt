-- Rows that have places, and the cells that they use.
use Rattle.std.specs.Prelude.{ℕ, ◌<◌, ◌==◌, Bool, IsTrue, List, All}
use Rattle.std.specs.List.{list_any}
use Rattle.dt_fit.specs.declared.geometry.Geometry.{Geometry}
use Rattle.dt_fit.specs.Geometry.{cell_at, index_limit}

-- a row at its place
pub record PlacedRow : Type 0 where
  pub place : ℕ
  pub indexes : List ℕ

-- every index is one that rows have
abbrev pub AreIndexes : List ℕ → Type 0
AreIndexes indexes = All (λ index. index < index_limit) indexes

abbrev pub AreRows : List PlacedRow → Type 0
AreRows rows = All (λ row. AreIndexes row.indexes) rows

-- whether the row uses the cell
abbrev pub row_uses : Geometry → PlacedRow → ℕ → Bool
row_uses geometry row cell = list_any (λ index. cell_at geometry row.place index == cell) row.indexes

-- whether one of the rows uses the cell
abbrev pub rows_use : Geometry → List PlacedRow → ℕ → Bool
rows_use geometry rows cell = list_any (λ row. row_uses geometry row cell) rows

-- every cell that is used is one of a row
abbrev pub AreCellsOf : Geometry → List PlacedRow → (ℕ → Bool) → Type 0
AreCellsOf geometry rows used = (cell : ℕ) → IsTrue (used cell) → IsTrue (rows_use geometry rows cell)

-- every place that is taken is one of a row
abbrev pub ArePlacesOf : List PlacedRow → (ℕ → Bool) → Type 0
ArePlacesOf rows taken = (place : ℕ) → IsTrue (taken place) → IsTrue (list_any (λ row. row.place == place) rows)
