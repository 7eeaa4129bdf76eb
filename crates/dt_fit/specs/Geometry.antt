-- How the cells of a table of rows are numbered, and how the bits that tell which are used are laid.
use Rattle.std.specs.Prelude.{ℕ, ◌+◌, ◌*◌, ◌^◌}
use Rattle.dt_fit.specs.declared.geometry.Geometry.{Geometry}
use Rattle.dt_fit.specs.declared.geometry.Geometry.TheVariants.{Colours, Displacements}

-- so many cells lie between a place and the next: the index `i` of a row at the place `p` has the cell `width * p + i`
abbrev pub width_of : Geometry → ℕ
width_of Colours = 2048
width_of Displacements = 1

-- the indexes of a row are below this number: one for each class
abbrev pub index_limit : ℕ
index_limit = 2048

-- places are below this number
abbrev pub place_limit : Geometry → ℕ
place_limit Colours = 4096
place_limit Displacements = 2 ^ 26

-- cells are below this number, so that a row has all its cells at every place
abbrev pub cell_limit : Geometry → ℕ
cell_limit Colours = 2048 * 4096
cell_limit Displacements = 2 ^ 27

-- the cell of an index of a row at a place
abbrev pub cell_at : Geometry → ℕ → ℕ → ℕ
cell_at geometry place index = width_of geometry * place + index

-- two rows have a cell in common only where their places differ by no more than this
abbrev pub reach_of : Geometry → ℕ
reach_of Colours = 0
reach_of Displacements = 2047

-- so many places at most are forbidden by one other row
abbrev pub spread_of : Geometry → ℕ
spread_of geometry = 2 * reach_of geometry + 1
