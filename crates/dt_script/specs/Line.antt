-- What a line of a script means: the words of each kind of line, and the relation of a line's bytes to the line.
use Rattle.std.specs.Prelude.{◌≡◌, ℕ, Bool, true, ◌&&◌, IsTrue, nat_le, nat_lt, List, [], ◌∷◌, ◌++◌, map, length, codes}
use Rattle.std.specs.List.{join_with_byte, list_all}
use Rattle.dt_selectors.specs.Names.{is_name}
use Rattle.dt_script.specs.NameBook.{NameBook}
use Rattle.dt_script.specs.Word.{Word, Plain, Number, Class, Selector, Body, AreTexts, book_after}
use Rattle.dt_script.specs.declared.limits.TheConstants.{CALLERS}
use Rattle.dt_script.specs.declared.line.Line.{Line}
use Rattle.dt_script.specs.declared.line.Line.TheVariants.{Header, AddClass, DropClass, Link, Unlink, AddSelector, DropSelector, Define, Undefine, Begin, Commit, Phase, Caller, Call, Pin, Unpin, End}

-- the words of a line
abbrev pub words_of : Line → List Word
words_of Header = Plain (codes "dispatch") ∷ Plain (codes "1") ∷ []
words_of (AddClass class []) = Plain (codes "class") ∷ Class class ∷ []
words_of (AddClass class (parent ∷ parents)) =
    Plain (codes "class") ∷ Class class ∷ Plain (codes "<") ∷ Class parent ∷ map Class parents
words_of (DropClass class) = Plain (codes "drop") ∷ Class class ∷ []
words_of (Link class parent) = Plain (codes "link") ∷ Class class ∷ Plain (codes "<") ∷ Class parent ∷ []
words_of (Unlink class parent) = Plain (codes "unlink") ∷ Class class ∷ Plain (codes "<") ∷ Class parent ∷ []
words_of (AddSelector selector arity) = Plain (codes "selector") ∷ Selector selector ∷ Number arity ∷ []
words_of (DropSelector selector) = Plain (codes "forget") ∷ Selector selector ∷ []
words_of (Define selector classes body) =
    Plain (codes "define") ∷ Selector selector ∷ map Class classes ++ Plain (codes "->") ∷ Body body ∷ []
words_of (Undefine selector classes) = Plain (codes "undefine") ∷ Selector selector ∷ map Class classes
words_of Begin = Plain (codes "begin") ∷ []
words_of Commit = Plain (codes "commit") ∷ []
words_of Phase = Plain (codes "phase") ∷ []
words_of (Caller caller) = Plain (codes "caller") ∷ Number caller ∷ []
words_of (Call query) = Plain (codes "call") ∷ Selector query.selector ∷ map Class query.classes
words_of Pin = Plain (codes "pin") ∷ []
words_of Unpin = Plain (codes "unpin") ∷ []
words_of End = Plain (codes "end") ∷ []

-- whether the number is from 1 to the greatest
abbrev pub is_from_one_to : ℕ → ℕ → Bool
is_from_one_to greatest number = nat_le 1 number && nat_le number greatest

-- whether the line's numbers that are no names are in range: 1 to 4 arguments, callers from 1 to 256
abbrev pub is_in_range : Line → Bool
is_in_range (AddSelector selector arity) = is_from_one_to 4 arity
is_in_range (Define selector classes body) = is_from_one_to 4 (length classes)
is_in_range (Undefine selector classes) = is_from_one_to 4 (length classes)
is_in_range (Caller caller) = is_from_one_to CALLERS caller
is_in_range (Call query) = is_from_one_to 4 (length query.classes)
is_in_range _ = true

-- whether the line's numbers that are no names have at most 16 bits, as those of every line that is made have
abbrev pub is_short : Line → Bool
is_short (AddSelector selector arity) = nat_lt arity 65536
is_short (Caller caller) = nat_lt caller 65536
is_short _ = true

-- The bytes are a line: its words with one space between two, each name by its number in the book after the line, in
-- which the names that are new were numbered from left to right.
pub record LineOf (bytes : List ℕ) (before : NameBook) (line : Line) (after : NameBook) : Type 0 where
  pub texts : List (List ℕ)
  pub spelled : bytes ≡ join_with_byte 32 texts
  pub are_words : IsTrue (list_all is_name texts)
  pub written : AreTexts after (words_of line) texts
  pub numbered : after ≡ book_after before (words_of line) texts
  pub in_range : IsTrue (is_in_range line)
