-- Laws of lines and their spellings.
use Rattle.std.specs.Prelude.{◌≡◌, ℕ, IsTrue, List}
use Rattle.dt_script.specs.NameBook.{NameBook}
use Rattle.dt_script.specs.LawfulBook.{LawfulBook}
use Rattle.dt_script.specs.Growth.{GrewAtEnd}
use Rattle.dt_script.specs.Line.{LineOf, is_in_range, is_short}
use Rattle.dt_script.specs.Writing.{IsSpelling}
use Rattle.dt_script.specs.declared.line.Line.{Line}

-- A line has one spelling in a book.
abbrev pub OneSpelling : Type 0
OneSpelling = (book : NameBook) (line : Line) (a b : List ℕ) → IsSpelling book line a → IsSpelling book line b → a ≡ b

-- What a line was read from is its spelling in the book after it.
abbrev pub ReadFromSpelling : Type 0
ReadFromSpelling = (bytes : List ℕ) (before after : NameBook) (line : Line) → LineOf bytes before line after → IsSpelling after line bytes

-- So a line that was read is written as it was.
abbrev pub WrittenAsRead : Type 0
WrittenAsRead = (bytes text : List ℕ) (before after : NameBook) (line : Line)
    → LineOf bytes before line after → IsSpelling after line text → text ≡ bytes

-- No two lines have one spelling in a book.
abbrev pub NoTwoLines : Type 0
NoTwoLines = (book : NameBook) (a b : Line) (text : List ℕ) → LawfulBook book → IsTrue (is_short a) → IsTrue (is_short b)
    → IsSpelling book a text → IsSpelling book b text → a ≡ b

-- Bytes mean one line at most after given names, and one book after it.
abbrev pub OneMeaning : Type 0
OneMeaning = (bytes : List ℕ) (before a b : NameBook) (line other : Line) → LawfulBook before
    → LineOf bytes before line a → LineOf bytes before other b → (line ≡ other) × (a ≡ b)

-- A lawful book is lawful after a line.
abbrev pub StaysLawful : Type 0
StaysLawful = (bytes : List ℕ) (before after : NameBook) (line : Line) → LawfulBook before
    → LineOf bytes before line after → LawfulBook after

-- What a line is spelled as in a book is this line again, and the book stays.
abbrev pub ReadAsWritten : Type 0
ReadAsWritten = (book : NameBook) (line : Line) (text : List ℕ) → LawfulBook book → IsTrue (is_in_range line)
    → IsSpelling book line text → LineOf text book line book

-- A book grows at its end by the names of a line.
abbrev pub GrowsByLine : Type 0
GrowsByLine = (bytes : List ℕ) (before after : NameBook) (line : Line) → LineOf bytes before line after → GrewAtEnd before after

-- What grew twice grew.
abbrev pub GrowsOn : Type 0
GrowsOn = (first second third : NameBook) → GrewAtEnd first second → GrewAtEnd second third → GrewAtEnd first third

-- A line is spelled as before in a book that grew.
abbrev pub SpellingStays : Type 0
SpellingStays = (before after : NameBook) (line : Line) (text : List ℕ) → GrewAtEnd before after → IsSpelling before line text → IsSpelling after line text
