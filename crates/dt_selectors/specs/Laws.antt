-- What follows from the definitions of names and selectors.
use Rattle.std.specs.Prelude.{◌≡◌, ◌==◌, ℕ, if◌then◌else◌, List, [], ◌∷◌, ◌++◌, length, None, Some}
use Rattle.dt_selectors.specs.Names.{Names, position_of, with_name}
use Rattle.dt_selectors.specs.Lawful.{AscendingSelectors}
use Rattle.dt_selectors.specs.Selectors.{Selector, arity_in, insert_selector, without_selector}

-- a name that has a number keeps it when a name is added
abbrev pub NumbersStay : Type 0
NumbersStay = (names : Names) (name added : List ℕ) (number : ℕ) → position_of name names.texts ≡ Some number
    → position_of name (with_name names added).texts ≡ Some number

-- a new name is numbered by how many names there were, and stands after them
abbrev pub NewNamesAreLast : Type 0
NewNamesAreLast = (names : Names) (name : List ℕ) → position_of name names.texts ≡ None
    → (position_of name (with_name names name).texts ≡ Some (length names.texts))
    × ((with_name names name).texts ≡ names.texts ++ name ∷ [])

-- a known name changes nothing
abbrev pub KnownNamesStay : Type 0
KnownNamesStay = (names : Names) (name : List ℕ) (number : ℕ) → position_of name names.texts ≡ Some number
    → with_name names name ≡ names

-- the arity of a selector where one is added: the added one has its own, and all others have theirs
abbrev pub AddingSetsOneArity : Type 0
AddingSetsOneArity = (selectors : List Selector) (added : Selector) (selector : ℕ) →
    arity_in (insert_selector added selectors) selector
    ≡ (if added.number == selector then Some added.arity else arity_in selectors selector)

-- and where one is dropped: it has none, and all others have theirs
abbrev pub DroppingUnsetsOneArity : Type 0
DroppingUnsetsOneArity = (selectors : List Selector) (dropped selector : ℕ) →
    arity_in (without_selector selectors dropped) selector
    ≡ (if dropped == selector then None else arity_in selectors selector)

-- a selector that was added is undone by dropping it, and one that was dropped by adding it with its arity
abbrev pub AddingIsUndone : Type 0
AddingIsUndone = (selectors : List Selector) (added : Selector) → arity_in selectors added.number ≡ None
    → without_selector (insert_selector added selectors) added.number ≡ selectors

abbrev pub DroppingIsUndone : Type 0
DroppingIsUndone = (selectors : List Selector) (dropped : Selector) → AscendingSelectors selectors
    → arity_in selectors dropped.number ≡ Some dropped.arity
    → insert_selector dropped (without_selector selectors dropped.number) ≡ selectors
