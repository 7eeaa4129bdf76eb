-- First fit for tables of rows. Read in this order: how cells are numbered, where a row fits and which place is the
-- lowest, rows with their places, the cells that are used in two states, and what holds; then worked examples. `Bits` and
-- `Undoing` come last: they say how the cells are kept, and no public clause names them.
pub mod Geometry
pub mod Fits
pub mod Rows
pub mod Cells
pub mod Laws
pub mod Examples
pub mod Bits
pub mod Undoing
