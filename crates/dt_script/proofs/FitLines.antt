-- The words of a line are words in a lawful book.
use Rattle.std.proofs.Common.{◌≡◌, ℕ, ◌+◌, ◌%◌, ◌<◌, ◌≤◌, true, IsTrue, ◌&&◌, nat_le, List, [], ◌∷◌, ◌++◌, length, map, codes, decimal, Some, refl, sym, ap, subst, ◌∙◌, arith}
use Rattle.std.specs.List.{list_all, slice_get}
use Rattle.std.proofs.lemmas.Bool.{and_parts, and_from, ltb-true}
use Rattle.std.proofs.lemmas.Bool.Decides.{nat_tests}
use Rattle.std.proofs.lemmas.Fmt.{decimal_by_steps, decimal_nonempty, length-decimal-le}
use Rattle.std.proofs.lemmas.List.Folds.{list_all-append}
use Rattle.std.proofs.lemmas.List.Elements.{All-get_or}
use Rattle.std.proofs.lemmas.Option.{slice_get_within, get_or_from_slice_get}
use Rattle.dt_selectors.specs.Names.{is_name, is_name_byte}
use Rattle.dt_script.specs.NameBook.{NameBook}
use Rattle.dt_script.specs.LawfulBook.{LawfulTexts, LawfulBook}
use Rattle.dt_script.specs.Word.{Word, Plain, Number, Class, Selector, Body, AreTexts, text_of_word}
use Rattle.dt_script.specs.Line.{words_of, is_in_range, is_short}
use Rattle.dt_script.specs.declared.line.Line.{Line}
use Rattle.dt_script.specs.declared.line.Line.TheVariants as line
use Rattle.dt_script.specs.declared.limits.TheConstants.{CALLERS}
use Rattle.dt_script.proofs.WrittenTexts.{bounds}
use Rattle.dt_script.proofs.Malformed.{some}
use Rattle.dt_script.proofs.SameKinds.{is_fit}

-- ---- a number is spelled as a word

digit : (n : ℕ) → n < 10 → list_all is_name_byte ((48 + n) ∷ []) ≡ true
digit n small = and_from (is_name_byte (48 + n)) true (and_from (nat_le 33 (48 + n)) (nat_le (48 + n) 126) (grind (arith, nat_tests)) (grind (arith, nat_tests))) refl

digits-before : (n : ℕ) (digits : List ℕ) → 10 ≤ n → list_all is_name_byte digits ≡ true → list_all is_name_byte (digits ++ (48 + n % 10) ∷ []) ≡ true
digits-before n digits many are =
    list_all-append is_name_byte digits ((48 + n % 10) ∷ [])
    ∙ and_from (list_all is_name_byte digits) (list_all is_name_byte ((48 + n % 10) ∷ [])) are (digit (n % 10) (omega arith))

pub decimal-name : (n : ℕ) → n < 65536 → is_name (decimal n) ≡ true
decimal-name n small =
    let some = decimal_nonempty n (omega arith) in
    let few = length-decimal-le 5 n (omega arith) (omega arith) (omega arith) in
    let bytes : list_all is_name_byte (decimal n) ≡ true = decimal_by_steps (λ _ ds. list_all is_name_byte ds ≡ true) digit digits-before n (omega arith) in
    and_from (nat_le 1 (length (decimal n))) (nat_le (length (decimal n)) 64 && list_all is_name_byte (decimal n)) (grind (arith, nat_tests))
    (and_from (nat_le (length (decimal n)) 64) (list_all is_name_byte (decimal n)) (grind (arith, nat_tests)) bytes)

-- ---- and so is each word of a lawful book

stored-name : (texts : List (List ℕ)) (text : List ℕ) (number : ℕ) → LawfulTexts texts → slice_get texts number ≡ Some text → is_name text ≡ true
stored-name texts text number lawful is =
    subst (λ t. IsTrue (is_name t)) (get_or_from_slice_get texts number text text is)
    (All-get_or (λ t. IsTrue (is_name t)) texts number text (slice_get_within texts number text is) lawful.are_names)

word-name : (book : NameBook) (word : Word) (text : List ℕ) → LawfulBook book → is_fit word ≡ true → text_of_word book word ≡ Some text → is_name text ≡ true
word-name book (Plain plain) text lawful fit is = ap is_name (sym (some is)) ∙ fit
word-name book (Number number) text lawful fit is = ap is_name (sym (some is)) ∙ decimal-name number (ltb-true number 65536 fit)
word-name book (Class number) text lawful fit is = stored-name book.classes text number lawful.classes is
word-name book (Selector number) text lawful fit is = stored-name book.selectors text number lawful.selectors is
word-name book (Body number) text lawful fit is = stored-name book.bodies text number lawful.bodies is

pub words_are_names : (book : NameBook) (words : List Word) (texts : List (List ℕ)) → LawfulBook book → list_all is_fit words ≡ true → AreTexts book words texts → IsTrue (list_all is_name texts)
words_are_names book [] [] lawful fit are = refl
words_are_names book [] (text ∷ texts) lawful fit are = absurd are
words_are_names book (word ∷ words) [] lawful fit are = absurd are
words_are_names book (word ∷ words) (text ∷ texts) lawful fit (is, are) =
    let parts = and_parts (is_fit word) (list_all is_fit words) fit in
    and_from (is_name text) (list_all is_name texts) (word-name book word text lawful parts.0 is) (words_are_names book words texts lawful parts.1 are)

-- ---- the words of a line

classes-fit : (classes : List ℕ) → list_all is_fit (map Class classes) ≡ true
classes-fit [] = refl
classes-fit (class ∷ classes) = classes-fit classes

pub line_fit : (l : Line) → IsTrue (is_short l) → list_all is_fit (words_of l) ≡ true
line_fit (line.AddClass class (parent ∷ parents)) short = classes-fit parents
line_fit (line.AddSelector selector arity) short = rw short refl
line_fit (line.Define selector classes body) short = rw (list_all-append is_fit (map Class classes) (Plain (codes "->") ∷ Body body ∷ []), classes-fit classes) refl
line_fit (line.Undefine selector classes) short = classes-fit classes
line_fit (line.Caller caller) short = rw short refl
line_fit (line.Call query) short = classes-fit query.classes
line_fit l short = refl

pub range_short : (l : Line) → IsTrue (is_in_range l) → IsTrue (is_short l)
range_short (line.AddSelector selector arity) range = let within = bounds 4 arity range in grind (arith, nat_tests)
range_short (line.Caller caller) range = let within = bounds CALLERS caller range in grind (arith, nat_tests)
range_short l range = refl
