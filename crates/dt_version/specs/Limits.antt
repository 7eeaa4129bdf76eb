-- What the limits of a store make of its gate and its words.
use Rattle.std.specs.Prelude.{ℕ, ◌+◌, ◌*◌}
use Rattle.dt_pages.specs.Reading.{page_words}
use Rattle.dt_gate.specs.Gate.{Bounds, bounds_of}
use Rattle.dt_version.specs.declared.view.Size.{Size}

-- the bounds of the gate that a store of this size runs
abbrev pub bounds : Size → Bounds
bounds size = bounds_of size.readers size.pages size.entries

-- how many words a store has: the version word, three for each root, and those of the pages
abbrev pub word_count : ℕ → ℕ → ℕ
word_count readers pages = 1 + 3 * (readers + 2) + page_words * pages
