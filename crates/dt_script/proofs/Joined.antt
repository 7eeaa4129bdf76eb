-- The spelling of a line, from its first words and the classes after them, each behind a space.
use Rattle.std.proofs.Common.{◌≡◌, ◌≢◌, ℕ, List, [], ◌∷◌, ◌++◌, map, flat_map, codes, Result, Ok, Err, unwrap_or, refl, sym, ap, ◌∙◌, append-nil, append_assoc}
use Rattle.std.specs.Prelude.{OnOk}
use Rattle.std.specs.List.{join_with_byte}
use Rattle.dt_script.specs.NameBook.{NameBook}
use Rattle.dt_script.specs.Word.{Word, Class, AreTexts}
use Rattle.dt_script.specs.Writing.{word_text, line_text, IsNamed, IsSpelling}
use Rattle.dt_script.specs.Line.{words_of}
use Rattle.dt_script.specs.declared.line.Line.{Line}
use Rattle.dt_script.specs.declared.line.Line.TheVariants as line

-- what follows from what a call says where it is fine
pub on_ok : {T E : Type 0} {P Q : Type 0} (result : Result T E) → OnOk result P → (P → Q) → OnOk result Q
on_ok (Ok value) is then = then is
on_ok (Err fault) is then = tt

-- the names of classes, each behind a space
abbrev pub classes_text : NameBook → List ℕ → List ℕ
classes_text book classes = flat_map (λ class. 32 ∷ word_text book (Class class)) classes

pub joined : (book : NameBook) (first : List ℕ) (classes : List ℕ) → join_with_byte 32 (first ∷ map (word_text book) (map Class classes)) ≡ first ++ classes_text book classes
joined book first [] = sym (append-nil first)
joined book first (class ∷ classes) = ap (λ l. first ++ 32 ∷ l) (joined book (word_text book (Class class)) classes)

pub joined_with_body : (book : NameBook) (first arrow body : List ℕ) (classes : List ℕ) (a b : Word) → word_text book a ≡ arrow → word_text book b ≡ body
    → join_with_byte 32 (first ∷ map (word_text book) (map Class classes ++ a ∷ b ∷ [])) ≡ first ++ (classes_text book classes ++ (32 ∷ arrow ++ 32 ∷ body))
joined_with_body book first arrow body [] a b is is' = ap (λ l. first ++ 32 ∷ (l ++ 32 ∷ word_text book b)) is ∙ ap (λ l. first ++ 32 ∷ (arrow ++ 32 ∷ l)) is'
joined_with_body book first arrow body (class ∷ classes) a b is is' =
    ap (λ l. first ++ 32 ∷ l) (joined_with_body book (word_text book (Class class)) arrow body classes a b is is')
    ∙ ap (λ l. first ++ 32 ∷ l) (sym (append_assoc (word_text book (Class class)) (classes_text book classes) (32 ∷ arrow ++ 32 ∷ body)))

-- a first word, a selector and classes
pub keyed : (book : NameBook) (old one two new key selector : List ℕ) (classes : List ℕ) → one ≡ old ++ key → two ≡ one ++ 32 ∷ selector → new ≡ two ++ classes_text book classes
    → new ≡ old ++ (key ++ 32 ∷ join_with_byte 32 (selector ∷ map (word_text book) (map Class classes)))
keyed book old one two new key selector classes is is' is'' =
    is'' ∙ ap (λ l. l ++ classes_text book classes) (is' ∙ ap (λ l. l ++ 32 ∷ selector) is) ∙ append_assoc (old ++ key) (32 ∷ selector) (classes_text book classes)
    ∙ append_assoc old key (32 ∷ (selector ++ classes_text book classes)) ∙ ap (λ l. old ++ (key ++ 32 ∷ l)) (sym (joined book selector classes))

-- a first word, a selector, classes, an arrow and a body
pub keyed_with_body : (book : NameBook) (old one two three four new key selector arrow body : List ℕ) (classes : List ℕ) (a b : Word) → word_text book a ≡ arrow → word_text book b ≡ body
    → one ≡ old ++ key → two ≡ one ++ 32 ∷ selector → three ≡ two ++ classes_text book classes → four ≡ three ++ 32 ∷ arrow → new ≡ four ++ 32 ∷ body
    → new ≡ old ++ (key ++ 32 ∷ join_with_byte 32 (selector ∷ map (word_text book) (map Class classes ++ a ∷ b ∷ [])))
keyed_with_body book old one two three four new key selector arrow body classes a b is_a is_b e1 e2 e3 e4 e5 =
    e5 ∙ ap (λ l. l ++ 32 ∷ body) (e4 ∙ ap (λ l. l ++ 32 ∷ arrow) (e3 ∙ ap (λ l. l ++ classes_text book classes) (e2 ∙ ap (λ l. l ++ 32 ∷ selector) e1)))
    ∙ regroup ∙ ap (λ l. old ++ (key ++ 32 ∷ l)) (sym (joined_with_body book selector arrow body classes a b is_a is_b))
  where
    regroup : ((((old ++ key) ++ 32 ∷ selector) ++ classes_text book classes) ++ 32 ∷ arrow) ++ 32 ∷ body ≡ old ++ (key ++ 32 ∷ (selector ++ (classes_text book classes ++ (32 ∷ arrow ++ 32 ∷ body))))
    regroup = simp append_assoc

-- a class with parents
pub subclass_text : (book : NameBook) (class : ℕ) (old new : List ℕ) (parents : List ℕ) → parents ≢ []
    → new ≡ (((old ++ codes "class") ++ 32 ∷ word_text book (Class class)) ++ 32 ∷ codes "<") ++ classes_text book parents
    → new ≡ old ++ line_text book (line.AddClass class parents)
subclass_text book class old new [] some is = absurd (some refl)
subclass_text book class old new (parent ∷ parents) some is =
    is ∙ regroup ∙ ap (λ l. old ++ (codes "class" ++ 32 ∷ (word_text book (Class class) ++ 32 ∷ (codes "<" ++ 32 ∷ l)))) (sym (joined book (word_text book (Class parent)) parents))
  where
    regroup : (((old ++ codes "class") ++ 32 ∷ word_text book (Class class)) ++ 32 ∷ codes "<") ++ classes_text book (parent ∷ parents)
        ≡ old ++ (codes "class" ++ 32 ∷ (word_text book (Class class) ++ 32 ∷ (codes "<" ++ 32 ∷ (word_text book (Class parent) ++ classes_text book parents))))
    regroup = simp append_assoc

-- the texts of words are theirs
pub texts-are : (book : NameBook) (words : List Word) (texts : List (List ℕ)) → AreTexts book words texts → map (word_text book) words ≡ texts
texts-are book [] [] are = refl
texts-are book [] (text ∷ texts) are = absurd are
texts-are book (word ∷ words) [] are = absurd are
texts-are book (word ∷ words) (text ∷ texts) (is, are) =
    ap (λ t. t ∷ map (word_text book) words) (ap (λ o. unwrap_or o []) is) ∙ ap (λ ts. text ∷ ts) (texts-are book words texts are)

pub line_spelled : (book : NameBook) (l : Line) (old new : List ℕ) → IsNamed book l → new ≡ old ++ line_text book l → (text : List ℕ) × IsSpelling book l text × (new ≡ old ++ text)
line_spelled book l old new (texts, are) is = (line_text book l, (texts, are, ap (join_with_byte 32) (texts-are book (words_of l) texts are)), is)
