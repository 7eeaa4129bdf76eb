-- Texts tell the kinds of a line's words, so that they are the texts of one line at most.
use Rattle.std.proofs.Common.{◌≡◌, ℕ, Bool, true, nat_lt, List, [], ◌∷◌, ◌++◌, length, map, get_or, drop, codes, Some, refl, sym, ap, ◌∙◌, arith, length-append}
use Rattle.std.specs.List.{list_all, slice_get}
use Rattle.std.proofs.lemmas.Bool.{and_parts, ltb-true}
use Rattle.std.proofs.lemmas.List.{map-append, length-map}
use Rattle.std.proofs.lemmas.Fmt.{decimal_injective}
use Rattle.dt_selectors.specs.Names.{is_name}
use Rattle.dt_script.specs.NameBook.{NameBook}
use Rattle.dt_script.specs.LawfulBook.{LawfulTexts, LawfulBook}
use Rattle.dt_script.specs.Word.{Word, Plain, Number, Class, Selector, Body, AreTexts, text_of_word, with_word, book_after}
use Rattle.dt_script.specs.Line.{words_of}
use Rattle.dt_script.specs.Keyword.{text_of_keyword}
use Rattle.dt_script.specs.Writing.{word_text}
use Rattle.dt_script.specs.declared.keyword.Keyword.{Keyword}
use Rattle.dt_script.specs.declared.keyword.Keyword.TheVariants as keyword
use Rattle.dt_script.specs.declared.line.Line.{Line}
use Rattle.dt_script.specs.declared.line.Line.TheVariants as line
use Rattle.dt_script.proofs.Joined.{texts-are}
use Rattle.dt_script.proofs.Malformed.{first_of, same_keyword, some}
use Rattle.dt_script.proofs.SameLine.{line_with, line_from, back}

-- a word's kind, as a word
abbrev pub kind_of : Word → Word
kind_of (Plain text) = Plain []
kind_of (Number number) = Number 0
kind_of (Class number) = Class 0
kind_of (Selector number) = Selector 0
kind_of (Body number) = Body 0

-- ---- lines of one first word with as many words

classes-kinds : (a b : List ℕ) → length a ≡ length b → map kind_of (map Class a) ≡ map kind_of (map Class b)
classes-kinds [] [] same = refl
classes-kinds [] (y ∷ b) same = absurd (omega (arith, same))
classes-kinds (x ∷ a) [] same = absurd (omega (arith, same))
classes-kinds (x ∷ a) (y ∷ b) same = ap (λ l. Class 0 ∷ l) (classes-kinds a b (omega (arith, same)))

parents-kinds : (class other : ℕ) (a b : List ℕ) → length (words_of (line.AddClass class a)) ≡ length (words_of (line.AddClass other b))
    → map kind_of (words_of (line.AddClass class a)) ≡ map kind_of (words_of (line.AddClass other b))
parents-kinds class other [] [] same = refl
parents-kinds class other [] (y ∷ b) same = absurd (omega (arith, same))
parents-kinds class other (x ∷ a) [] same = absurd (omega (arith, same))
parents-kinds class other (x ∷ a) (y ∷ b) same =
    ap (λ l. Plain [] ∷ Class 0 ∷ Plain [] ∷ Class 0 ∷ l) (classes-kinds a b (omega (arith, same, length-map a Class, length-map b Class)))

define-kinds : (body other : ℕ) (a b : List ℕ) → length (map Class a ++ Plain (codes "->") ∷ Body body ∷ []) ≡ length (map Class b ++ Plain (codes "->") ∷ Body other ∷ [])
    → map kind_of (map Class a ++ Plain (codes "->") ∷ Body body ∷ []) ≡ map kind_of (map Class b ++ Plain (codes "->") ∷ Body other ∷ [])
define-kinds body other a b same =
    let as_many : length a ≡ length b = omega (arith, same, length-append (map Class a) (Plain (codes "->") ∷ Body body ∷ []), length-append (map Class b) (Plain (codes "->") ∷ Body other ∷ []), length-map a Class, length-map b Class) in
    map-append kind_of (map Class a) (Plain (codes "->") ∷ Body body ∷ []) ∙ ap (λ l. l ++ Plain [] ∷ Body 0 ∷ []) (classes-kinds a b as_many)
    ∙ sym (map-append kind_of (map Class b) (Plain (codes "->") ∷ Body other ∷ []))

line-kinds : (k : Keyword) (a b : List ℕ) (s t c d m n : ℕ) → length (words_of (line_with k a s c m)) ≡ length (words_of (line_with k b t d n))
    → map kind_of (words_of (line_with k a s c m)) ≡ map kind_of (words_of (line_with k b t d n))
line-kinds keyword.Class a b s t c d m n same = parents-kinds (get_or a 0 0) (get_or b 0 0) (drop 1 a) (drop 1 b) same
line-kinds keyword.Define a b s t c d m n same = ap (λ l. Plain [] ∷ Selector 0 ∷ l) (define-kinds c d a b (omega (arith, same)))
line-kinds keyword.Undefine a b s t c d m n same = ap (λ l. Plain [] ∷ Selector 0 ∷ l) (classes-kinds a b (omega (arith, same, length-map a Class, length-map b Class)))
line-kinds keyword.Call a b s t c d m n same = ap (λ l. Plain [] ∷ Selector 0 ∷ l) (classes-kinds a b (omega (arith, same, length-map a Class, length-map b Class)))
line-kinds k a b s t c d m n same = refl

-- ---- lines with the same texts

-- the first word of a line
pub first : (l : Line) → words_of l ≡ Plain (text_of_keyword (first_of l)) ∷ drop 1 (words_of l)
first (line.AddClass class []) = refl
first (line.AddClass class (parent ∷ parents)) = refl
first l = refl

first-text : (book : NameBook) (l : Line) (texts : List (List ℕ)) → AreTexts book (words_of l) texts → text_of_keyword (first_of l) ≡ get_or texts 0 []
first-text book l texts are =
    sym (ap (λ ws. get_or (map (word_text book) ws) 0 []) (first l)) ∙ ap (λ ts. get_or ts 0 []) (texts-are book (words_of l) texts are)

pub same_first : (book other : NameBook) (a b : Line) (texts : List (List ℕ)) → AreTexts book (words_of a) texts → AreTexts other (words_of b) texts → first_of a ≡ first_of b
same_first book other a b texts are are' = same_keyword (first_of a) (first_of b) (first-text book a texts are ∙ sym (first-text other b texts are'))

pub as_many : (book : NameBook) (words : List Word) (texts : List (List ℕ)) → AreTexts book words texts → length words ≡ length texts
as_many book words texts are = sym (length-map words (word_text book)) ∙ ap length (texts-are book words texts are)

pub same_kinds : (book other : NameBook) (a b : Line) (texts : List (List ℕ)) → AreTexts book (words_of a) texts → AreTexts other (words_of b) texts
    → map kind_of (words_of a) ≡ map kind_of (words_of b)
same_kinds book other a b texts are are' =
    let again : line_from (first_of a) (words_of b) ≡ b = ap (λ k. line_from k (words_of b)) (same_first book other a b texts are are') ∙ back b in
    let many : length (words_of (line_from (first_of a) (words_of a))) ≡ length (words_of (line_from (first_of a) (words_of b))) =
    ap (λ l. length (words_of l)) (back a) ∙ as_many book (words_of a) texts are ∙ sym (as_many other (words_of b) texts are') ∙ ap (λ l. length (words_of l)) (sym again) in
    ap (λ l. map kind_of (words_of l)) (sym (back a)) ∙ line-kinds (first_of a) _ _ _ _ _ _ _ _ many ∙ ap (λ l. map kind_of (words_of l)) again

-- the book after words of some kinds, with these texts
kind-book : (book : NameBook) (word : Word) (text : List ℕ) → with_word book word text ≡ with_word book (kind_of word) text
kind-book book (Plain plain) text = refl
kind-book book word text = refl

pub kinds-book : (book : NameBook) (words : List Word) (texts : List (List ℕ)) → book_after book words texts ≡ book_after book (map kind_of words) texts
kinds-book book [] texts = refl
kinds-book book (word ∷ words) [] = refl
kinds-book book (word ∷ words) (text ∷ texts) =
    ap (λ b. book_after b words texts) (kind-book book word text) ∙ kinds-book (with_word book (kind_of word) text) words texts

-- ---- words with the same texts in a lawful book

one_place : (texts : List (List ℕ)) (text : List ℕ) (a b : ℕ) → LawfulTexts texts → slice_get texts a ≡ Some text → slice_get texts b ≡ Some text → a ≡ b
one_place texts text a b lawful is is' = some (sym (lawful.distinct a text is) ∙ lawful.distinct b text is')

-- whether a word that stands for itself is a word, and a number has 16 bits
abbrev pub is_fit : Word → Bool
is_fit (Plain text) = is_name text
is_fit (Number number) = nat_lt number 65536
is_fit _ = true

same_word : (book : NameBook) (a b : Word) (text : List ℕ) → LawfulBook book → is_fit a ≡ true → is_fit b ≡ true → kind_of a ≡ kind_of b
    → text_of_word book a ≡ Some text → text_of_word book b ≡ Some text → a ≡ b
same_word book (Plain a) (Plain b) text lawful fit fit' same is is' = ap Plain (some (is ∙ sym is'))
same_word book (Number a) (Number b) text lawful fit fit' same is is' =
    ap Number (decimal_injective a b (omega (arith, ltb-true a 65536 fit)) (omega (arith, ltb-true b 65536 fit')) (some (is ∙ sym is')))
same_word book (Class a) (Class b) text lawful fit fit' same is is' = ap Class (one_place book.classes text a b lawful.classes is is')
same_word book (Selector a) (Selector b) text lawful fit fit' same is is' = ap Selector (one_place book.selectors text a b lawful.selectors is is')
same_word book (Body a) (Body b) text lawful fit fit' same is is' = ap Body (one_place book.bodies text a b lawful.bodies is is')
same_word book a b text lawful fit fit' same is is' = absurd (cc)

pub same_words_of_kinds : (book : NameBook) (a b : List Word) (texts : List (List ℕ)) → LawfulBook book → list_all is_fit a ≡ true → list_all is_fit b ≡ true
    → map kind_of a ≡ map kind_of b → AreTexts book a texts → AreTexts book b texts → a ≡ b
same_words_of_kinds book [] [] texts lawful fit fit' same are are' = refl
same_words_of_kinds book [] (w ∷ b) texts lawful fit fit' same are are' = absurd cc
same_words_of_kinds book (v ∷ a) [] texts lawful fit fit' same are are' = absurd cc
same_words_of_kinds book (v ∷ a) (w ∷ b) [] lawful fit fit' same are are' = absurd are
same_words_of_kinds book (v ∷ a) (w ∷ b) (text ∷ texts) lawful fit fit' same (is, are) (is', are') =
    let parts = and_parts (is_fit v) (list_all is_fit a) fit in
    let parts' = and_parts (is_fit w) (list_all is_fit b) fit' in
    let kind : kind_of v ≡ kind_of w = cc in
    let kinds : map kind_of a ≡ map kind_of b = cc in
    ap (λ x. x ∷ a) (same_word book v w text lawful parts.0 parts'.0 kind is is') ∙ ap (λ l. w ∷ l) (same_words_of_kinds book a b texts lawful parts.1 parts'.1 kinds are are')
