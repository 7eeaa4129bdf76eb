-- What has the form of no line is none.
use Rattle.std.proofs.Common.{◌≡◌, ◌≢◌, ◌==◌, ℕ, suc, ◌<◌, ◌≤◌, not, IsTrue, true, ◌&&◌, List, [], ◌∷◌, ◌++◌, map, length, codes, Option, Some, None, nat_le, find, inl, inr, refl, sym, ap, subst, ◌∙◌, arith, lit<}
use Rattle.std.specs.List.{list_all, join_with_byte}
use Rattle.std.proofs.lemmas.Bool.{and_parts, and_from, leb-true, ne_eqb, not_from_false}
use Rattle.dt_selectors.specs.Names.{is_name, is_name_byte, same_text}
use Rattle.dt_script.specs.NameBook.{NameBook}
use Rattle.dt_script.specs.Cut.{is_free_of, parts_at}
use Rattle.dt_script.specs.Word.{Word, Plain, Number, Class, Selector, Body, AreTexts, text_of_word}
use Rattle.dt_script.specs.Line.{words_of, is_in_range, is_from_one_to, LineOf}
use Rattle.dt_script.specs.Keyword.{text_of_keyword, MayFollow}
use Rattle.dt_script.specs.Written.{IsWrittenOf}
use Rattle.dt_script.specs.WrittenLine.{IsWrittenLine}
use Rattle.dt_script.specs.declared.written.Written.{Written}
use Rattle.dt_script.specs.declared.keyword.Keyword.{Keyword}
use Rattle.dt_script.specs.declared.keyword.Keyword.TheVariants as keyword
use Rattle.dt_script.specs.declared.line.Line.{Line}
use Rattle.dt_script.specs.declared.line.Line.TheVariants.{Header, AddClass, DropClass, Link, Unlink, AddSelector, DropSelector, Define, Undefine, Begin, Commit, Phase, Caller, Call, Pin, Unpin, End}
use Rattle.dt_script.proofs.Parts.{parts-join}

-- a byte below those of names isn't among the bytes of a name
bytes-free : (c : ℕ) → c < 33 → (bytes : List ℕ) → IsTrue (list_all is_name_byte bytes) → IsTrue (is_free_of c bytes)
bytes-free c below [] names = refl
bytes-free c below (x ∷ xs) names =
    let both = and_parts (is_name_byte x) (list_all is_name_byte xs) names in
    let least : 33 ≤ x = leb-true 33 x (and_parts (nat_le 33 x) (nat_le x 126) both.0).0 in
    and_from (not (x == c)) (is_free_of c xs) (not_from_false (x == c) (ne_eqb x c (λ e. omega arith))) (bytes-free c below xs both.1)

name-free : (c : ℕ) → c < 33 → (name : List ℕ) → IsTrue (is_name name) → IsTrue (is_free_of c name)
name-free c below name is =
    let within = and_parts (nat_le 1 (length name)) (nat_le (length name) 64 && list_all is_name_byte name) is in
    bytes-free c below name (and_parts (nat_le (length name) 64) (list_all is_name_byte name) within.1).1

pub names-free : (c : ℕ) → c < 33 → (names : List (List ℕ)) → IsTrue (list_all is_name names) → IsTrue (list_all (is_free_of c) names)
names-free c below [] are = refl
names-free c below (name ∷ names) are =
    let both = and_parts (is_name name) (list_all is_name names) are in
    and_from (is_free_of c name) (list_all (is_free_of c) names) (name-free c below name both.0) (names-free c below names both.1)

-- the words that were joined are those between the spaces
pub parts-words : (word : List ℕ) (words : List (List ℕ)) → IsTrue (list_all is_name (word ∷ words)) → parts_at 32 (join_with_byte 32 (word ∷ words)) ≡ word ∷ words
parts-words word words are = parts-join 32 word words (names-free 32 (lit< tt) (word ∷ words) are)

-- the first word of a line
abbrev pub first_of : Line → Keyword
first_of Header = keyword.Dispatch
first_of (AddClass class parents) = keyword.Class
first_of (DropClass class) = keyword.Drop
first_of (Link class parent) = keyword.Link
first_of (Unlink class parent) = keyword.Unlink
first_of (AddSelector selector arity) = keyword.Selector
first_of (DropSelector selector) = keyword.Forget
first_of (Define selector classes body) = keyword.Define
first_of (Undefine selector classes) = keyword.Undefine
first_of Begin = keyword.Begin
first_of Commit = keyword.Commit
first_of Phase = keyword.Phase
first_of (Caller caller) = keyword.Caller
first_of (Call query) = keyword.Call
first_of Pin = keyword.Pin
first_of Unpin = keyword.Unpin
first_of End = keyword.End

pub heads : {A : Type 0} {x y : A} {xs ys : List A} → x ∷ xs ≡ y ∷ ys → x ≡ y
heads e = cc

pub tails : {A : Type 0} {x y : A} {xs ys : List A} → x ∷ xs ≡ y ∷ ys → xs ≡ ys
tails e = cc

-- what has the words of a line begins with its first word, and what follows may follow that
pub record Begins (line : Line) (texts : List (List ℕ)) : Type 0 where
  pub rest : List (List ℕ)
  pub whole : texts ≡ text_of_keyword (first_of line) ∷ rest
  pub follows : MayFollow (first_of line) rest

pub some : {A : Type 0} {x y : A} → Some x ≡ Some y → x ≡ y
some e = cc

classes-texts : (book : NameBook) (classes : List ℕ) (texts : List (List ℕ)) → AreTexts book (map Class classes) texts → length texts ≡ length classes
classes-texts book [] [] are = refl
classes-texts book [] (text ∷ texts) are = absurd are
classes-texts book (class ∷ classes) [] are = absurd are
classes-texts book (class ∷ classes) (text ∷ texts) are = ap (λ n. suc n) (classes-texts book classes texts are.1)

-- of a definition: the classes, the arrow and the body
definition : (book : NameBook) (classes : List ℕ) (body : ℕ) (texts : List (List ℕ)) → AreTexts book (map Class classes ++ Plain (codes "->") ∷ Body body ∷ []) texts
    → (names : List (List ℕ)) × (name : List ℕ) × (texts ≡ names ++ codes "->" ∷ name ∷ []) × (length names ≡ length classes)
definition book [] body [] are = absurd are
definition book [] body (arrow ∷ []) are = absurd are.1
definition book [] body (arrow ∷ name ∷ []) (is, rest) = ([], name, ap (λ t. t ∷ name ∷ []) (some (sym is)), refl)
definition book [] body (arrow ∷ name ∷ more ∷ texts) are = absurd are.1.1
definition book (class ∷ classes) body [] are = absurd are
definition book (class ∷ classes) body (text ∷ texts) are =
    let (names, name, whole, same) = definition book classes body texts are.1 in
    (text ∷ names, name, ap (λ l. text ∷ l) whole, ap (λ n. suc n) same)

-- the words one after the other
next : (book : NameBook) (word : Word) (words : List Word) (texts : List (List ℕ)) → AreTexts book (word ∷ words) texts
    → (text : List ℕ) × (rest : List (List ℕ)) × (texts ≡ text ∷ rest) × (text_of_word book word ≡ Some text) × AreTexts book words rest
next book word words [] are = absurd are
next book word words (text ∷ texts) (is, are) = (text, texts, refl, is, are)

pub plain : (book : NameBook) (text : List ℕ) (words : List Word) (texts : List (List ℕ)) → AreTexts book (Plain text ∷ words) texts
    → (rest : List (List ℕ)) × (texts ≡ text ∷ rest) × AreTexts book words rest
plain book text words [] are = absurd are
plain book text words (other ∷ texts) (is, are) = (texts, ap (λ t. t ∷ texts) (some (sym is)), are)

nothing : (book : NameBook) (texts : List (List ℕ)) → AreTexts book [] texts → texts ≡ []
nothing book [] are = refl
nothing book (text ∷ texts) are = absurd are

pub one : (book : NameBook) (word : Word) (texts : List (List ℕ)) → AreTexts book (word ∷ []) texts → (text : List ℕ) × (texts ≡ text ∷ []) × (text_of_word book word ≡ Some text)
one book word [] are = absurd are
one book word (text ∷ []) (is, are) = (text, refl, is)
one book word (text ∷ more ∷ texts) (is, are) = absurd are

linked : (book : NameBook) (class parent : ℕ) (texts : List (List ℕ)) → AreTexts book (Class class ∷ Plain (codes "<") ∷ Class parent ∷ []) texts
    → (c p : List ℕ) × (texts ≡ c ∷ codes "<" ∷ p ∷ [])
linked book class parent texts are =
    let (c, rest, whole, is, more) = next book (Class class) (Plain (codes "<") ∷ Class parent ∷ []) texts are in
    let (rest', whole', more') = plain book (codes "<") (Class parent ∷ []) rest more in
    let (p, last, is') = one book (Class parent) rest' more' in
    (c, p, whole ∙ ap (λ l. c ∷ l) (whole' ∙ ap (λ l. codes "<" ∷ l) last))

with_classes : (book : NameBook) (selector : ℕ) (classes : List ℕ) (texts : List (List ℕ)) → IsTrue (is_from_one_to 4 (length classes)) → AreTexts book (Selector selector ∷ map Class classes) texts
    → (s : List ℕ) × (cs : List (List ℕ)) × (texts ≡ s ∷ cs) × IsTrue (is_from_one_to 4 (length cs))
with_classes book selector classes texts range are =
    let (s, rest, whole, is, more) = next book (Selector selector) (map Class classes) texts are in
    (s, rest, whole, subst (λ (n : ℕ). IsTrue (is_from_one_to 4 n)) (sym (classes-texts book classes rest more)) range)

-- a line of its first word alone
pub alone : (book : NameBook) (text : List ℕ) (texts : List (List ℕ)) → AreTexts book (Plain text ∷ []) texts → texts ≡ text ∷ []
alone book text texts are =
    let (rest, whole, more) = plain book text [] texts are in
    whole ∙ ap (λ l. text ∷ l) (nothing book rest more)

pub begins : (book : NameBook) (line : Line) (texts : List (List ℕ)) → IsTrue (is_in_range line) → AreTexts book (words_of line) texts → Begins line texts
begins book Header texts range are =
    let (rest, whole, more) = plain book (codes "dispatch") (Plain (codes "1") ∷ []) texts are in
    record { rest = rest; whole = whole; follows = alone book (codes "1") rest more }
begins book (AddClass class []) texts range are =
    let (rest, whole, more) = plain book (codes "class") (Class class ∷ []) texts are in
    let (c, last, is) = one book (Class class) rest more in
    record { rest = rest; whole = whole; follows = inl (c, last) }
begins book (AddClass class (parent ∷ parents)) texts range are =
    let (rest, whole, more) = plain book (codes "class") (Class class ∷ Plain (codes "<") ∷ Class parent ∷ map Class parents) texts are in
    let (c, after, after_is, is, more') = next book (Class class) (Plain (codes "<") ∷ Class parent ∷ map Class parents) rest more in
    let (names, names_are, more_names) = plain book (codes "<") (Class parent ∷ map Class parents) after more' in
    let (p, ps, ps_are, is', last) = next book (Class parent) (map Class parents) names more_names in
    record { rest = rest; whole = whole; follows = inr (c, p, ps, after_is ∙ ap (λ l. c ∷ l) (names_are ∙ ap (λ l. codes "<" ∷ l) ps_are)) }
begins book (DropClass class) texts range are =
    let (rest, whole, more) = plain book (codes "drop") (Class class ∷ []) texts are in
    let (c, last, is) = one book (Class class) rest more in
    record { rest = rest; whole = whole; follows = (c, last) }
begins book (Link class parent) texts range are =
    let (rest, whole, more) = plain book (codes "link") (Class class ∷ Plain (codes "<") ∷ Class parent ∷ []) texts are in
    record { rest = rest; whole = whole; follows = linked book class parent rest more }
begins book (Unlink class parent) texts range are =
    let (rest, whole, more) = plain book (codes "unlink") (Class class ∷ Plain (codes "<") ∷ Class parent ∷ []) texts are in
    record { rest = rest; whole = whole; follows = linked book class parent rest more }
begins book (AddSelector selector arity) texts range are =
    let (rest, whole, more) = plain book (codes "selector") (Selector selector ∷ Number arity ∷ []) texts are in
    let (s, after, after_is, is, more') = next book (Selector selector) (Number arity ∷ []) rest more in
    let (a, last, is') = one book (Number arity) after more' in
    record { rest = rest; whole = whole; follows = (s, arity, after_is ∙ ap (λ l. s ∷ l) (last ∙ ap (λ t. t ∷ []) (some (sym is'))), range) }
begins book (DropSelector selector) texts range are =
    let (rest, whole, more) = plain book (codes "forget") (Selector selector ∷ []) texts are in
    let (s, last, is) = one book (Selector selector) rest more in
    record { rest = rest; whole = whole; follows = (s, last) }
begins book (Define selector classes body) texts range are =
    let (rest, whole, more) = plain book (codes "define") (Selector selector ∷ map Class classes ++ Plain (codes "->") ∷ Body body ∷ []) texts are in
    let (s, after, after_is, is, more') = next book (Selector selector) (map Class classes ++ Plain (codes "->") ∷ Body body ∷ []) rest more in
    let (cs, b, last, same) = definition book classes body after more' in
    record { rest = rest; whole = whole; follows = (s, cs, b, after_is ∙ ap (λ l. s ∷ l) last, subst (λ (n : ℕ). IsTrue (is_from_one_to 4 n)) (sym same) range) }
begins book (Undefine selector classes) texts range are =
    let (rest, whole, more) = plain book (codes "undefine") (Selector selector ∷ map Class classes) texts are in
    record { rest = rest; whole = whole; follows = with_classes book selector classes rest range more }
begins book Begin texts range are = record { rest = []; whole = alone book (codes "begin") texts are; follows = refl }
begins book Commit texts range are = record { rest = []; whole = alone book (codes "commit") texts are; follows = refl }
begins book Phase texts range are = record { rest = []; whole = alone book (codes "phase") texts are; follows = refl }
begins book (Caller caller) texts range are =
    let (rest, whole, more) = plain book (codes "caller") (Number caller ∷ []) texts are in
    let (k, last, is) = one book (Number caller) rest more in
    record { rest = rest; whole = whole; follows = (caller, last ∙ ap (λ t. t ∷ []) (some (sym is)), range) }
begins book (Call query) texts range are =
    let (rest, whole, more) = plain book (codes "call") (Selector query.selector ∷ map Class query.classes) texts are in
    record { rest = rest; whole = whole; follows = with_classes book query.selector query.classes rest range more }
begins book Pin texts range are = record { rest = []; whole = alone book (codes "pin") texts are; follows = refl }
begins book Unpin texts range are = record { rest = []; whole = alone book (codes "unpin") texts are; follows = refl }
begins book End texts range are = record { rest = []; whole = alone book (codes "end") texts are; follows = refl }

-- a line has a word at least, so its words are those between the spaces of its bytes
parts-of : (bytes key : List ℕ) (rest texts : List (List ℕ)) → texts ≡ key ∷ rest → IsTrue (list_all is_name texts) → bytes ≡ join_with_byte 32 texts → parts_at 32 bytes ≡ texts
parts-of bytes key rest [] whole are spelled = absurd cc
parts-of bytes key rest (word ∷ words) whole are spelled = ap (parts_at 32) spelled ∙ parts-words word words are

pub parts-line : (bytes : List ℕ) (line : Line) (before after : NameBook) (l : LineOf bytes before line after) → parts_at 32 bytes ≡ l.texts
parts-line bytes line before after l = parts-of bytes _ _ l.texts (begins after line l.texts l.in_range l.written).whole l.are_words l.spelled

-- where a part isn't a word, there is no line
pub no_words : (bytes : List ℕ) → list_all is_name (parts_at 32 bytes) ≢ true → (line : Line) (before after : NameBook) → LineOf bytes before line after → ⊥
no_words bytes none line before after l = none (ap (list_all is_name) (parts-line bytes line before after l) ∙ l.are_words)

-- where the first word isn't one of a line, there is no line
pub no_keyword : (bytes word : List ℕ) (texts : List (List ℕ)) → parts_at 32 bytes ≡ word ∷ texts → ((keyword : Keyword) → text_of_keyword keyword ≡ word → ⊥)
    → (line : Line) (before after : NameBook) → LineOf bytes before line after → ⊥
no_keyword bytes word texts parts none line before after l =
    let b = begins after line l.texts l.in_range l.written in
    let same : word ∷ texts ≡ text_of_keyword (first_of line) ∷ b.rest = sym parts ∙ parts-line bytes line before after l ∙ b.whole in
    none (first_of line) (sym (heads same))

-- the first word with a text
abbrev all_keywords : List Keyword
all_keywords = keyword.Dispatch ∷ keyword.Class ∷ keyword.Drop ∷ keyword.Link ∷ keyword.Unlink ∷ keyword.Selector ∷ keyword.Forget ∷ keyword.Define ∷ keyword.Undefine ∷ keyword.Begin ∷ keyword.Commit ∷ keyword.Phase ∷ keyword.Caller ∷ keyword.Call ∷ keyword.Pin ∷ keyword.Unpin ∷ keyword.End ∷ []

abbrev keyword_from : List ℕ → Option Keyword
keyword_from text = find (λ k. same_text (text_of_keyword k) text) all_keywords

from-text : (k : Keyword) → keyword_from (text_of_keyword k) ≡ Some k
from-text keyword.Dispatch = refl
from-text k = refl

pub same_keyword : (a b : Keyword) → text_of_keyword a ≡ text_of_keyword b → a ≡ b
same_keyword a b same = some (sym (from-text a) ∙ ap keyword_from same ∙ from-text b)

-- where what follows the first word may not, there is no line
pub no_rest : (bytes : List ℕ) (keyword : Keyword) (texts : List (List ℕ)) → parts_at 32 bytes ≡ text_of_keyword keyword ∷ texts → (MayFollow keyword texts → ⊥)
    → (line : Line) (before after : NameBook) → LineOf bytes before line after → ⊥
no_rest bytes keyword texts parts none line before after l =
    let b = begins after line l.texts l.in_range l.written in
    let same : text_of_keyword keyword ∷ texts ≡ text_of_keyword (first_of line) ∷ b.rest = sym parts ∙ parts-line bytes line before after l ∙ b.whole in
    none (subst (λ (k : Keyword). MayFollow k texts) (sym (same_keyword keyword (first_of line) (heads same))) (subst (λ (ts : List (List ℕ)). MayFollow (first_of line) ts) (sym (tails same)) b.follows))

-- what follows the first word is the line or none
pub written_line_of : (bytes word : List ℕ) (texts : List (List ℕ)) (keyword : Keyword) (found : Option Written) → parts_at 32 bytes ≡ word ∷ texts → list_all is_name (parts_at 32 bytes) ≡ true
    → text_of_keyword keyword ≡ word → IsWrittenOf keyword texts found → IsWrittenLine bytes found
written_line_of bytes word texts keyword None parts are is none = no_rest bytes keyword texts (parts ∙ ap (λ t. t ∷ texts) (sym is)) none
written_line_of bytes word texts keyword (Some w) parts are is (whole, range) = (whole ∙ ap (λ t. t ∷ texts) is ∙ sym parts, are, range)
