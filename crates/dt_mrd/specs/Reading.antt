-- How the cells of rows lie in the master array, and how a query is read: from the place word on, each class leads from a
-- code to the code of a cell.
use Rattle.std.specs.Prelude.{ℕ, zero, suc, ◌+◌, ◌-◌, ◌/◌, ◌%◌, ◌^◌, ◌==◌, ◌&&◌, Bool, nat_le, nat_lt, if◌then◌else◌, List, [], ◌∷◌}
use Rattle.dt_pages.specs.Reading.{Reading, addresses}
use Rattle.dt_scratch.specs.declared.reply.Answer.{Answer}
use Rattle.dt_scratch.specs.declared.reply.Answer.TheVariants.{NotUnderstood}
use Rattle.dt_cells.specs.Regions.{place_of}
use Rattle.dt_cells.specs.Held.{Row}
use Rattle.dt_cells.specs.Cell.{answer_of_code}

-- the master array begins here, and ends here
abbrev pub master_cells : ℕ
master_cells = 2 ^ 26

abbrev pub cells_end : ℕ
cells_end = 2 ^ 27

-- whether the address is that of a cell of the master array
abbrev pub owns : ℕ → Bool
owns address = nat_le master_cells address && nat_lt address cells_end

-- the cell of a class in the row with this tag, which is the row's displacement + 1
abbrev pub cell_at : ℕ → ℕ → ℕ
cell_at tag class = master_cells + (tag - 1 + class)

-- the code of the cell of a class in the row with this tag; 0 where the tag is none, where the cell would lie past the last
-- address, and where the cell has another tag
abbrev pub code_at : Reading → ℕ → ℕ → ℕ
code_at x zero class = 0
code_at x (suc place) class =
    if nat_lt (cell_at (suc place) class) addresses && (x (cell_at (suc place) class) / 2 ^ 32 == suc place)
    then x (cell_at (suc place) class) % 2 ^ 32 else 0

-- the code to which classes lead from a code: the code of a cell that isn't the last is the tag of the next row
abbrev pub code_along : Reading → ℕ → List ℕ → ℕ
code_along x code [] = code
code_along x code (class ∷ classes) = code_along x (code_at x code class) classes

-- the answer by the place word and a cell for each class: the last code is its code
abbrev pub part_by : Reading → ℕ → List ℕ → Answer
part_by x selector [] = NotUnderstood
part_by x selector (class ∷ classes) = answer_of_code (code_along x (x (place_of selector)) (class ∷ classes))

-- where a query is read for the last of its first so many classes
abbrev pub way_along : Reading → ℕ → List ℕ → ℕ → ℕ
way_along x code [] count = 0
way_along x code (class ∷ classes) zero = 0
way_along x code (class ∷ classes) (suc zero) = cell_at code class
way_along x code (class ∷ classes) (suc (suc count)) = way_along x (code_at x code class) classes (suc count)

-- the tag of a row as it is read: the code to which its prefix leads from the place word, whatever the class words and the
-- selector words are
abbrev pub tag_read : Reading → Row → ℕ
tag_read x row = code_along x (x (place_of row.0)) row.1
