-- A line whose names are still texts: its words, and the line that it is once they have numbers.
use Rattle.std.specs.Prelude.{◌≡◌, ℕ, Bool, true, IsTrue, List, [], ◌∷◌, ◌++◌, map, codes, decimal, Option, None, Some}
use Rattle.dt_script.specs.NameBook.{NameBook, with_class_name, with_selector_name, with_body_name, number_in}
use Rattle.dt_script.specs.Cut.{parts_at}
use Rattle.dt_script.specs.Line.{is_from_one_to}
use Rattle.dt_script.specs.Keyword.{text_of_keyword, MayFollow}
use Rattle.dt_script.specs.Numbering.{numbers_in}
use Rattle.dt_script.specs.declared.limits.TheConstants.{CALLERS}
use Rattle.dt_script.specs.declared.keyword.Keyword.{Keyword}
use Rattle.dt_script.specs.declared.written.Classes.{Classes}
use Rattle.dt_script.specs.declared.written.Classes.TheVariants.{One, Two, Three, Four}
use Rattle.dt_script.specs.declared.written.Written.{Written}
use Rattle.dt_script.specs.declared.written.Written.TheVariants as written
use Rattle.dt_script.specs.declared.line.Line.{Line}
use Rattle.dt_script.specs.declared.line.Line.TheVariants as line

-- a word that stands for itself, a number, or a name of each kind
pub data Token : Type 0 where
  Plain : (text : List ℕ) → Token
  Number : (number : ℕ) → Token
  ClassName : (text : List ℕ) → Token
  SelectorName : (text : List ℕ) → Token
  BodyName : (text : List ℕ) → Token

-- how it is spelled
abbrev pub text_of_token : Token → List ℕ
text_of_token (Plain text) = text
text_of_token (Number number) = decimal number
text_of_token (ClassName text) = text
text_of_token (SelectorName text) = text
text_of_token (BodyName text) = text

-- the book with the name that it is, if it is one
abbrev pub with_token : NameBook → Token → NameBook
with_token book (Plain text) = book
with_token book (Number number) = book
with_token book (ClassName text) = with_class_name book text
with_token book (SelectorName text) = with_selector_name book text
with_token book (BodyName text) = with_body_name book text

-- the book with all their names, numbered from left to right
abbrev pub with_tokens : NameBook → List Token → NameBook
with_tokens book [] = book
with_tokens book (token ∷ tokens) = with_tokens (with_token book token) tokens

-- the names of the classes
abbrev pub texts_of_classes : Classes → List (List ℕ)
texts_of_classes (One a) = a.now ∷ []
texts_of_classes (Two a b) = a.now ∷ b.now ∷ []
texts_of_classes (Three a b c) = a.now ∷ b.now ∷ c.now ∷ []
texts_of_classes (Four a b c d) = a.now ∷ b.now ∷ c.now ∷ d.now ∷ []

-- the words of a line
abbrev pub tokens_of : Written → List Token
tokens_of written.Header = Plain (codes "dispatch") ∷ Plain (codes "1") ∷ []
tokens_of (written.AddClass class) = Plain (codes "class") ∷ ClassName class.now ∷ []
tokens_of (written.AddSubclass class parents) =
    Plain (codes "class") ∷ ClassName class.now ∷ Plain (codes "<") ∷ map ClassName (parts_at 32 parents.now)
tokens_of (written.DropClass class) = Plain (codes "drop") ∷ ClassName class.now ∷ []
tokens_of (written.Link class parent) =
    Plain (codes "link") ∷ ClassName class.now ∷ Plain (codes "<") ∷ ClassName parent.now ∷ []
tokens_of (written.Unlink class parent) =
    Plain (codes "unlink") ∷ ClassName class.now ∷ Plain (codes "<") ∷ ClassName parent.now ∷ []
tokens_of (written.AddSelector selector arity) =
    Plain (codes "selector") ∷ SelectorName selector.now ∷ Number arity ∷ []
tokens_of (written.DropSelector selector) = Plain (codes "forget") ∷ SelectorName selector.now ∷ []
tokens_of (written.Define selector classes body) =
    Plain (codes "define") ∷ SelectorName selector.now ∷ map ClassName (texts_of_classes classes)
    ++ Plain (codes "->") ∷ BodyName body.now ∷ []
tokens_of (written.Undefine selector classes) =
    Plain (codes "undefine") ∷ SelectorName selector.now ∷ map ClassName (texts_of_classes classes)
tokens_of written.Begin = Plain (codes "begin") ∷ []
tokens_of written.Commit = Plain (codes "commit") ∷ []
tokens_of written.Phase = Plain (codes "phase") ∷ []
tokens_of (written.Caller caller) = Plain (codes "caller") ∷ Number caller ∷ []
tokens_of (written.Call selector classes) =
    Plain (codes "call") ∷ SelectorName selector.now ∷ map ClassName (texts_of_classes classes)
tokens_of written.Pin = Plain (codes "pin") ∷ []
tokens_of written.Unpin = Plain (codes "unpin") ∷ []
tokens_of written.End = Plain (codes "end") ∷ []

-- the texts of its words
abbrev pub texts_of : Written → List (List ℕ)
texts_of w = map text_of_token (tokens_of w)

-- whether its numbers are in range
abbrev pub is_written_in_range : Written → Bool
is_written_in_range (written.AddSelector selector arity) = is_from_one_to 4 arity
is_written_in_range (written.Caller caller) = is_from_one_to CALLERS caller
is_written_in_range _ = true

-- the line with these texts after a first word, and `None` where no line has them
abbrev pub IsWrittenOf : Keyword → List (List ℕ) → Option Written → Type 0
IsWrittenOf keyword texts (Some w) =
    (texts_of w ≡ text_of_keyword keyword ∷ texts) × IsTrue (is_written_in_range w)
IsWrittenOf keyword texts None = MayFollow keyword texts → ⊥

-- the line with the numbers of its names
abbrev pub line_in : NameBook → Written → Line
line_in book written.Header = line.Header
line_in book (written.AddClass class) = line.AddClass (number_in book.classes class.now) []
line_in book (written.AddSubclass class parents) =
    line.AddClass (number_in book.classes class.now) (numbers_in book (parts_at 32 parents.now))
line_in book (written.DropClass class) = line.DropClass (number_in book.classes class.now)
line_in book (written.Link class parent) =
    line.Link (number_in book.classes class.now) (number_in book.classes parent.now)
line_in book (written.Unlink class parent) =
    line.Unlink (number_in book.classes class.now) (number_in book.classes parent.now)
line_in book (written.AddSelector selector arity) =
    line.AddSelector (number_in book.selectors selector.now) arity
line_in book (written.DropSelector selector) = line.DropSelector (number_in book.selectors selector.now)
line_in book (written.Define selector classes body) =
    line.Define (number_in book.selectors selector.now) (numbers_in book (texts_of_classes classes))
    (number_in book.bodies body.now)
line_in book (written.Undefine selector classes) =
    line.Undefine (number_in book.selectors selector.now) (numbers_in book (texts_of_classes classes))
line_in book written.Begin = line.Begin
line_in book written.Commit = line.Commit
line_in book written.Phase = line.Phase
line_in book (written.Caller caller) = line.Caller caller
line_in book (written.Call selector classes) = line.Call (record {
  selector = number_in book.selectors selector.now;
  classes = numbers_in book (texts_of_classes classes);
})
line_in book written.Pin = line.Pin
line_in book written.Unpin = line.Unpin
line_in book written.End = line.End
