-- When an image serves a program.
use Rattle.std.specs.Prelude.{◌≡◌, ℕ, ◌<◌, ◌≤◌, false, List, Some, All}
use Rattle.std.specs.List.{list_any}
use Rattle.dt_pages.specs.Reading.{Reading, blank}
use Rattle.dt_definitions.specs.Lawful.{Lawful}
use Rattle.dt_definitions.specs.Program.{Program, empty_program, arity_of}
use Rattle.dt_scratch.specs.Query.{Query, arity_of_query, is_same_query}
use Rattle.dt_scratch.specs.Resolve.{reply, cell}
use Rattle.dt_scratch.specs.declared.reply.Change.{Change}
use Rattle.dt_cells.specs.Regions.{selector_numbers, place_of}
use Rattle.dt_cells.specs.Held.{Held, IsHeld, held_after, IsStageable}
use Rattle.dt_cells.specs.Kind.{Kind, sets, SameFor, Stay}
use Rattle.dt_cells.specs.Find.{found}
use Rattle.dt_cells.specs.Heads.{HasHeads}

-- for every query of these arities, look-up over the image gives the program's reply
abbrev pub Serves : ℕ → Kind → Program → Reading → Type 0
Serves low k p x = (q : Query) → low ≤ arity_of_query q → arity_of_query q ≤ k.arities → found k x q ≡ reply p q

-- what is held is the program's cells of these arities, each with its answer
pub record HoldsCells (low high : ℕ) (p : Program) (held : Held) : Type 0 where
  pub cells : (q : Query) → low ≤ arity_of_query q → arity_of_query q ≤ high → held q ≡ cell p q
  pub none : (q : Query) → IsHeld held q → (arity_of p q.selector ≡ Some (arity_of_query q)) × (low ≤ arity_of_query q) × (arity_of_query q ≤ high)

-- no live selector of these arities that has no place has a place word
abbrev pub NoStray : ℕ → Kind → Program → Held → Reading → Type 0
NoStray low k p held x =
    (s n : ℕ) → arity_of p s ≡ Some n → low ≤ n → n ≤ k.arities → (k.placed held s → ⊥) → x (place_of s) ≡ 0

-- no selector without a place has a place word
abbrev pub NoneIsStray : Kind → Held → Reading → Type 0
NoneIsStray k held x = (s : ℕ) → s < selector_numbers → (k.placed held s → ⊥) → x (place_of s) ≡ 0

-- the changes are of these arities, have the new cells, and leave no difference out
pub record AreDifferences (low high : ℕ) (old new : Program) (changes : List Change) : Type 0 where
  pub cells : All (λ change. change.answer ≡ cell new change.query) changes
  pub arities : All (λ change. (low ≤ arity_of_query change.query) × (arity_of_query change.query ≤ high)) changes
  pub all : (q : Query) → low ≤ arity_of_query q → arity_of_query q ≤ high
      → list_any (λ change. is_same_query change.query q) changes ≡ false → cell old q ≡ cell new q

-- What is held after the differences of two programs is what the new one, a lawful program, understands.
abbrev pub CellsFollow : Type 0
CellsFollow = (low high : ℕ) (old new : Program) (held : Held) (changes : List Change) → Lawful new
    → HoldsCells low high old held → AreDifferences low high old new changes → HoldsCells low high new (held_after held changes)

-- Where a reading shows the cells of a program, has its class words and selector words, and has no stray
-- place word, it serves the program.
abbrev pub ShownServes : Kind → Type 0
ShownServes k = (low : ℕ) (p : Program) (held : Held) (x : Reading) → 1 ≤ low → Lawful p → HoldsCells low k.arities p held
    → k.shows x held → HasHeads p x → NoStray low k p held x → Serves low k p x

-- The empty image serves the empty program.
abbrev pub BlankServes : Kind → Type 0
BlankServes k = (low : ℕ) → Serves low k empty_program blank

-- What the changes make of a reading that shows the old program's cells, and of every reading that agrees with it
-- where this kind looks, serves the new program, where it has the new class words and selector words and no live
-- selector without a place has a place word.
abbrev pub ServesAfter : Kind → Type 0
ServesAfter k = (low : ℕ) (old new : Program) (held : Held) (changes : List Change) (x z y : Reading) → 1 ≤ low → Lawful new
    → HoldsCells low k.arities old held → AreDifferences low k.arities old new changes
    → k.shows x held → IsStageable low k.arities held changes → k.places x held changes z → Stay k held changes x z
    → SameFor k (held_after held changes) z y → HasHeads new y → NoStray low k new (held_after held changes) y → Serves low k new y

-- the place words that the placing of changes doesn't set are the same in both
abbrev pub IsRest : Kind → List Change → Reading → Reading → Type 0
IsRest k changes x z =
    (s : ℕ) → s < selector_numbers → sets k changes (place_of s) ≡ false → z (place_of s) ≡ x (place_of s)

-- Where no selector without a place had a place word, none has one after the changes.
abbrev pub NoneIsStrayAfter : Kind → Type 0
NoneIsStrayAfter k = (held : Held) (changes : List Change) (x z : Reading) → k.shows x held → k.places x held changes z
    → IsRest k changes x z → NoneIsStray k held x → NoneIsStray k (held_after held changes) z

-- Where of the place words only those that may be set are others, the place words of placed selectors without a change stay.
abbrev pub RestStays : Kind → Type 0
RestStays k = (held : Held) (changes : List Change) (x z : Reading) → k.shows x held
    → IsRest k changes x z → Stay k held changes x z
