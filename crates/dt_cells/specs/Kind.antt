-- A table kind, apart from any value of it, and its laws.
use Rattle.std.specs.Prelude.{◌≡◌, ◌≢◌, ◌⊎◌, ℕ, ◌<◌, ◌≤◌, ◌&&◌, ◌||◌, Bool, true, false, List, take}
use Rattle.dt_pages.specs.Reading.{Reading, blank}
use Rattle.dt_scratch.specs.Query.{Query, arity_of_query}
use Rattle.dt_scratch.specs.declared.reply.Answer.{Answer}
use Rattle.dt_scratch.specs.declared.reply.Change.{Change}
use Rattle.dt_cells.specs.Held.{Held, none_held, IsHeld, IsInRange, held_after, HasArityOf, IsStageable, is_changed, is_changed_place}
use Rattle.dt_cells.specs.Regions.{place_of, IsCell}

pub record Kind : Type 1 where
  -- the greatest arity that it covers
  pub arities : ℕ
  -- the greatest least arity with which it may be made
  pub most_low : ℕ
  -- whether it gives places to selectors, and so sets place words
  pub has_places : Bool
  -- the addresses of its cells
  pub owns : ℕ → Bool
  -- its part of a look-up
  pub part : Reading → Query → Answer
  -- which selectors have a place where this is held
  pub placed : Held → ℕ → Type 0
  -- the address at which a query is read for its first so many classes
  pub way : Reading → Query → ℕ → ℕ
  -- the reading shows what is held, and its used cells at the owned addresses are those that are read so
  pub shows : Reading → Held → Type 0
  -- the words after the changes, at the addresses that are set, are those of the placing
  pub places : Reading → Held → List Change → Reading → Type 0

-- the addresses that the placing of changes sets
abbrev pub sets : Kind → List Change → ℕ → Bool
sets k changes address = k.owns address || (k.has_places && is_changed_place changes address)

-- the two readings are the same at the owned addresses, and at the place words of placed selectors
pub record SameFor (k : Kind) (held : Held) (x y : Reading) : Type 0 where
  pub owned : (address : ℕ) → k.owns address ≡ true → x address ≡ y address
  pub words : (s : ℕ) → k.placed held s → x (place_of s) ≡ y (place_of s)

-- the place words of placed selectors without a change are as before
abbrev pub Stay : Kind → Held → List Change → Reading → Reading → Type 0
Stay k held changes x y = (s : ℕ) → is_changed changes s ≡ false → k.placed held s → y (place_of s) ≡ x (place_of s)

-- a selector with a change has a place word exactly where it has a place
abbrev pub IsMarked : Kind → Held → Reading → ℕ → Type 0
IsMarked k held y s = (k.placed held s × (y (place_of s) ≢ 0)) ⊎ ((k.placed held s → ⊥) × (y (place_of s) ≡ 0))

pub record IsLawful (k : Kind) : Type 0 where
  pub owned_are_cells : (address : ℕ) → k.owns address ≡ true → IsCell address
  -- what shows, and how it is read
  pub blank_shows_none : k.shows blank none_held
  pub shown_elsewhere : (x y : Reading) (held : Held) → k.shows x held → SameFor k held x y → k.shows y held
  pub shown_in_range : (x : Reading) (held : Held) (q : Query) → k.shows x held → IsHeld held q → IsInRange q
  pub held_is_answered : (x : Reading) (held : Held) (q : Query) → k.shows x held → IsHeld held q → k.part x q ≡ held q
  pub rest_is_answered : (x : Reading) (held : Held) (q : Query) → k.shows x held → IsInRange q → arity_of_query q ≤ k.arities
      → HasArityOf held q → k.placed held q.selector ⊎ (x (place_of q.selector) ≡ 0) → k.part x q ≡ held q
  -- places
  pub placed_is_held : (held : Held) (s : ℕ) → k.placed held s → (q : Query) × IsHeld held q × (q.selector ≡ s)
  pub placed_by_own : (held other : Held) (s : ℕ) → ((q : Query) → q.selector ≡ s → held q ≡ other q) → k.placed held s → k.placed other s
  pub placed_has_word : (x : Reading) (held : Held) (s : ℕ) → k.shows x held → k.placed held s → x (place_of s) ≢ 0
  pub no_places : k.has_places ≡ false → (held : Held) (s : ℕ) → k.placed held s → ⊥
  -- placing
  pub marks : (x y : Reading) (held : Held) (changes : List Change) (s : ℕ) → k.shows x held → k.places x held changes y
      → k.has_places ≡ true → is_changed changes s ≡ true → IsMarked k (held_after held changes) y s
  pub placed_from : (x z y : Reading) (held : Held) (changes : List Change) → SameFor k held x z → k.places x held changes y → k.places z held changes y
  pub placed_at_set : (x y z : Reading) (held : Held) (changes : List Change) → k.places x held changes y
      → ((address : ℕ) → sets k changes address ≡ true → y address ≡ z address) → k.places x held changes z
  pub determined : (x y z : Reading) (held : Held) (changes : List Change) → k.shows x held → k.places x held changes y → k.places x held changes z
      → (address : ℕ) → sets k changes address ≡ true → y address ≡ z address
  pub shown_after : (low : ℕ) (x y : Reading) (held : Held) (changes : List Change) → k.shows x held → 1 ≤ low → IsStageable low k.arities held changes
      → k.places x held changes y → Stay k held changes x y → k.shows y (held_after held changes)
  -- the count of used cells
  pub used : (x : Reading) (held : Held) (address : ℕ) → k.shows x held → k.owns address ≡ true → x address ≢ 0
      → (q : Query) × (n : ℕ) × IsHeld held q × (0 < n) × (n ≤ arity_of_query q) × (k.way x q n ≡ address)
  pub way_by_prefix : (x : Reading) (q r : Query) (n : ℕ) → q.selector ≡ r.selector → arity_of_query q ≡ arity_of_query r → 0 < n
      → take n q.classes ≡ take n r.classes → k.way x q n ≡ k.way x r n
