-- Words that are to be set, and what they make of a reading.
use Rattle.std.specs.Prelude.{ℕ, unwrap_or}
use Rattle.std.specs.Ordering.{nat_cmp}
use Rattle.std.specs.FinMap.{FinMap, get}
use Rattle.dt_pages.specs.Reading.{Reading}

-- the words that are set, by address; a word that is set to 0 is among them
abbrev pub Drafted : Type 0
Drafted = FinMap nat_cmp ℕ

-- the reading with these words set over it
abbrev pub laid_over : Drafted → Reading → Reading
laid_over drafted base address = unwrap_or (get drafted address) (base address)
