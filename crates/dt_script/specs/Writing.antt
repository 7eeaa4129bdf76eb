-- The one spelling of a line.
use Rattle.std.specs.Prelude.{◌≡◌, ℕ, IsTrue, List, [], map, unwrap_or}
use Rattle.std.specs.List.{join_with_byte}
use Rattle.dt_script.specs.NameBook.{NameBook}
use Rattle.dt_script.specs.Word.{Word, AreTexts, text_of_word}
use Rattle.dt_script.specs.Line.{words_of}
use Rattle.dt_script.specs.Named.{is_line_named}
use Rattle.dt_script.specs.declared.line.Line.{Line}

-- each number of the line has a name in the book
abbrev pub IsNamed : NameBook → Line → Type 0
IsNamed book line = (texts : List (List ℕ)) × AreTexts book (words_of line) texts

-- the text is the one spelling of the line: the texts of its words with one space between two
abbrev pub IsSpelling : NameBook → Line → List ℕ → Type 0
IsSpelling book line text =
    (texts : List (List ℕ)) × AreTexts book (words_of line) texts × (text ≡ join_with_byte 32 texts)

-- A line whose numbers are those of names has a name for each.
abbrev pub NamedLinesAreSpelled : Type 0
NamedLinesAreSpelled = (book : NameBook) (line : Line) → IsTrue (is_line_named book line) → IsNamed book line

-- the text of a word, and none where its number has no name
abbrev pub word_text : NameBook → Word → List ℕ
word_text book word = unwrap_or (text_of_word book word) []

-- the line with one space between two words
abbrev pub line_text : NameBook → Line → List ℕ
line_text book line = join_with_byte 32 (map (word_text book) (words_of line))
