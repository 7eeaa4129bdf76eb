-- The numbers of a list of classes.
use Rattle.std.specs.Prelude.{◌≡◌, ℕ, not, IsTrue, List, [], ◌∷◌, map, Result, Ok, Err}
use Rattle.dt_selectors.specs.Names.{with_text}
use Rattle.dt_script.specs.NameBook.{NameBook, number_in, is_within_limits}
use Rattle.dt_selectors.specs.declared.names.NameFault.{NameFault}
use Rattle.dt_selectors.specs.declared.names.NameFault.TheVariants.{NamesFull, NoMemory}

-- the texts with these, one after the other, each last where it is new
abbrev pub with_texts : List (List ℕ) → List (List ℕ) → List (List ℕ)
with_texts texts [] = texts
with_texts texts (text ∷ more) = with_texts (with_text text texts) more

-- the book with the names of these classes
abbrev pub with_classes : NameBook → List (List ℕ) → NameBook
with_classes book names = record { classes = with_texts book.classes names; selectors = book.selectors; bodies = book.bodies }

-- the numbers of these classes
abbrev pub numbers_in : NameBook → List (List ℕ) → List ℕ
numbers_in book names = map (number_in book.classes) names

-- These classes were numbered: the book has their names, and they have their numbers in it; or the book with their names
-- isn't within its limits.
abbrev pub IsNumbered : NameBook → List (List ℕ) → Result (List ℕ) NameFault → NameBook → Type 0
IsNumbered old names (Ok numbers) new = (new ≡ with_classes old names) × (numbers ≡ numbers_in new names)
IsNumbered old names (Err NamesFull) new = IsTrue (not (is_within_limits (with_classes old names)))
IsNumbered old names (Err NoMemory) new = Unit {0}
