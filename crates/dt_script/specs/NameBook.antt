-- The names of a script: classes, selectors and bodies, each numbered in the order of their first appearance.
use Rattle.std.specs.Prelude.{ℕ, Bool, ◌&&◌, nat_le, List, [], length, unwrap_or}
use Rattle.dt_graph.specs.declared.limits.TheConstants.{CLASSES}
use Rattle.dt_selectors.specs.Names.{position_of, with_text}
use Rattle.dt_selectors.specs.declared.limits.TheConstants.{SELECTORS, BODIES}

-- the names so far: a name's number is its place in its list
pub record NameBook : Type 0 where
  pub classes : List (List ℕ)
  pub selectors : List (List ℕ)
  pub bodies : List (List ℕ)

-- no name
abbrev pub empty_book : NameBook
empty_book = record { classes = []; selectors = []; bodies = [] }

-- the book with this name of a class, of a selector or of a body: a new one comes last
abbrev pub with_class_name : NameBook → List ℕ → NameBook
with_class_name book name = record
    { classes = with_text name book.classes; selectors = book.selectors; bodies = book.bodies }

abbrev pub with_selector_name : NameBook → List ℕ → NameBook
with_selector_name book name = record
    { classes = book.classes; selectors = with_text name book.selectors; bodies = book.bodies }

abbrev pub with_body_name : NameBook → List ℕ → NameBook
with_body_name book name = record
    { classes = book.classes; selectors = book.selectors; bodies = with_text name book.bodies }

-- the number of a name in its list
abbrev pub number_in : List (List ℕ) → List ℕ → ℕ
number_in texts name = unwrap_or (position_of name texts) 0

-- whether no list holds more names than it may
abbrev pub is_within_limits : NameBook → Bool
is_within_limits book =
    nat_le (length book.classes) CLASSES
    && (nat_le (length book.selectors) SELECTORS && nat_le (length book.bodies) BODIES)
