-- Laws of counts of faults, of what a source loses and of what a sink takes, over two calls.
use Rattle.std.specs.Prelude.{ℕ, ◌+◌, ◌<◌, ◌≤◌, List, ◌++◌, Option, ◌⊎◌}
use Rattle.std.specs.Io.KnownBytes.{Keeps, Appends}
use Rattle.dt_outside.specs.Faults.{last_count, Rose, one_fault_more}
use Rattle.dt_outside.specs.Losing.{LosesAtMost}
use Rattle.dt_outside.specs.Putting.{AppendsPrefix, Told}

-- A count that is the same rose only where it stands at the greatest count.
abbrev pub SameCountRoseAtLast : Type 0
SameCountRoseAtLast = (count : ℕ) → Rose count count → last_count ≤ count

-- A fault that is counted is a rise.
abbrev pub OneFaultMoreIsRise : Type 0
OneFaultMoreIsRise = (count : ℕ) → Rose count (one_fault_more count)

-- Over two calls, in which a count doesn't fall, it rose where it rose in one of them.
abbrev pub RoseInOneOfTwo : Type 0
RoseInOneOfTwo = (old middle new : ℕ) → old ≤ middle → middle ≤ new → Rose old middle ⊎ Rose middle new → Rose old new

-- And it rose in one of them where it rose.
abbrev pub RoseOverTwo : Type 0
RoseOverTwo = (old middle new : ℕ) → old ≤ middle → Rose old new → Rose old middle ⊎ Rose middle new

-- Who loses none keeps all, and who keeps all loses none.
abbrev pub LosingNoneIsKeeping : Type 0
LosingNoneIsKeeping = (old new : Option (List ℕ)) → LosesAtMost 0 old new → Keeps old new

abbrev pub KeepingIsLosingNone : Type 0
KeepingIsLosingNone = (limit : ℕ) (old new : Option (List ℕ)) → Keeps old new → LosesAtMost limit old new

-- What is lost in two calls adds up.
abbrev pub LossesAddUp : Type 0
LossesAddUp = (first second : ℕ) (old middle new : Option (List ℕ))
    → LosesAtMost first old middle → LosesAtMost second middle new → LosesAtMost (first + second) old new

-- The whole text is a prefix of it, and nothing is a prefix of every text.
abbrev pub WholeIsPrefix : Type 0
WholeIsPrefix = (old new : Option (List ℕ)) (text : List ℕ) → Appends old new text → AppendsPrefix old new text

abbrev pub NothingIsPrefix : Type 0
NothingIsPrefix = (old new : Option (List ℕ)) (text : List ℕ) → Keeps old new → AppendsPrefix old new text

-- A whole text, and then a prefix of another, are a prefix of the two.
abbrev pub PrefixesAddUp : Type 0
PrefixesAddUp = (old middle new : Option (List ℕ)) (text more : List ℕ)
    → Appends old middle text → AppendsPrefix middle new more → AppendsPrefix old new (text ++ more)

-- Where the count stayed, and can rise, what was told is the whole text.
abbrev pub ToldWholeWhereCalm : Type 0
ToldWholeWhereCalm = (before after : Option (List ℕ)) (faults : ℕ) (text : List ℕ)
    → faults < last_count → Told before after faults faults text → Appends before after text
