-- Where the words of an image stand.
use Rattle.std.specs.Prelude.{◌⊎◌, ℕ, ◌+◌, ◌<◌, ◌≤◌, ◌^◌}

-- there are so many class numbers, and so many selector numbers
abbrev pub class_numbers : ℕ
class_numbers = 2048

abbrev pub selector_numbers : ℕ
selector_numbers = 4096

-- the address of a selector's word
abbrev pub selector_at : ℕ → ℕ
selector_at selector = 4096 + selector

-- the address of a selector's place word
abbrev pub place_of : ℕ → ℕ
place_of selector = 8192 + selector

-- the cells of queries of one class begin here
abbrev pub single_cells : ℕ
single_cells = 2 ^ 24

-- the address is that of a cell: of one class, or of the master array
abbrev pub IsCell : ℕ → Type 0
IsCell address = (2 ^ 24 ≤ address) × (address < 2 ^ 27) × ((address < 2 ^ 25) ⊎ (2 ^ 26 ≤ address))
