-- The words of a line: some stand for themselves, the others are names, which have their texts in a book.
use Rattle.std.specs.Prelude.{◌≡◌, ℕ, List, [], ◌∷◌, Option, Some, decimal, slice_get}
use Rattle.dt_script.specs.NameBook.{NameBook, with_class_name, with_selector_name, with_body_name}

-- a word that stands for itself, a number, or the number of a name
pub data Word : Type 0 where
  Plain : (text : List ℕ) → Word
  Number : (number : ℕ) → Word
  Class : (number : ℕ) → Word
  Selector : (number : ℕ) → Word
  Body : (number : ℕ) → Word

-- the text of a word, if its number has a name
abbrev pub text_of_word : NameBook → Word → Option (List ℕ)
text_of_word book (Plain text) = Some text
text_of_word book (Number number) = Some (decimal number)
text_of_word book (Class number) = slice_get book.classes number
text_of_word book (Selector number) = slice_get book.selectors number
text_of_word book (Body number) = slice_get book.bodies number

-- these are the texts of the words, one for each
abbrev pub AreTexts : NameBook → List Word → List (List ℕ) → Type 0
AreTexts book [] [] = Unit {0}
AreTexts book [] (text ∷ texts) = ⊥
AreTexts book (word ∷ words) [] = ⊥
AreTexts book (word ∷ words) (text ∷ texts) = (text_of_word book word ≡ Some text) × AreTexts book words texts

-- the book with the name that the word is, if it is one
abbrev pub with_word : NameBook → Word → List ℕ → NameBook
with_word book (Plain plain) text = book
with_word book (Number number) text = book
with_word book (Class number) text = with_class_name book text
with_word book (Selector number) text = with_selector_name book text
with_word book (Body number) text = with_body_name book text

-- the book after words with these texts: their names are numbered from left to right
abbrev pub book_after : NameBook → List Word → List (List ℕ) → NameBook
book_after book [] texts = book
book_after book (word ∷ words) [] = book
book_after book (word ∷ words) (text ∷ texts) = book_after (with_word book word text) words texts
