-- Which classes of a row have a cell, and which cells are laid or given up.
use Rattle.std.specs.Prelude.{◌≡◌, true, ℕ, ◌+◌, ◌-◌, ◌<◌, ◌==◌, ◌&&◌, not, Bool, List, Option, if◌then◌else◌, is_some, All}
use Rattle.std.specs.List.{list_any}
use Rattle.dt_mrd.specs.declared.kept_row.KeptRow.{KeptRow}
use Rattle.dt_mrd.specs.Kept.{next_in}

-- whether the class is among the indexes
abbrev pub is_among : List ℕ → ℕ → Bool
is_among indexes class = list_any (λ index. index == class) indexes

-- whether the class has a cell in a row, or has none
abbrev pub is_met : Bool → Option KeptRow → ℕ → Bool
is_met stays row class = if stays then is_some (next_in row class) else not (is_some (next_in row class))

-- whether the class is among the indexes, and has a cell in a row or has none
abbrev pub is_given : Bool → List ℕ → Option KeptRow → ℕ → Bool
is_given stays indexes row class = is_among indexes class && is_met stays row class

-- the number of the cell of a class, counted from the begin of the master array
abbrev pub number_at : ℕ → ℕ → ℕ
number_at tag class = tag - 1 + class

-- the indexes are numbers of classes
abbrev pub AreClasses : List ℕ → Type 0
AreClasses indexes = All (λ class. class < 2048) indexes

-- whether the class has a cell in a row
abbrev pub has_cell : Option KeptRow → ℕ → Bool
has_cell row class = is_some (next_in row class)

-- the classes that have a cell in a row are numbers of classes
abbrev pub HasClasses : Option KeptRow → Type 0
HasClasses row = (class : ℕ) → has_cell row class ≡ true → class < 2048
