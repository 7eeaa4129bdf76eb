-- How a tuple is kept: in an array of four classes, whose places that are left hold the first class again.
use Rattle.std.specs.Prelude.{ℕ, ◌-◌, List, ◌++◌, length, replicate, slice_index}

-- the four places
abbrev pub padded : List ℕ → List ℕ
padded classes = classes ++ replicate (4 - length classes) (slice_index classes 0)
