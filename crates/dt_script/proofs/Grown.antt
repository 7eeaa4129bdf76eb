-- Books that grew at their end.
use Rattle.std.specs.List.{slice_get}
use Rattle.std.proofs.Common.{◌≡◌, ℕ, zero, suc, Some, Bool, true, false, cond, List, [], ◌∷◌, ◌++◌, refl, sym, ap, subst, ◌∙◌, append-nil, append_assoc}
use Rattle.dt_selectors.specs.Names.{same_text, with_text}
use Rattle.dt_script.specs.NameBook.{NameBook, with_class_name, with_selector_name, with_body_name}
use Rattle.dt_script.specs.Word.{Word, Plain, Number, Class, Selector, Body, AreTexts, text_of_word, with_word, book_after}
use Rattle.dt_script.specs.Line.{words_of}
use Rattle.dt_script.specs.Laws.{GrowsByLine, SpellingStays}
use Rattle.dt_script.specs.Growth.{AreFirst, GrewAtEnd}

first-same : (texts : List (List ℕ)) → AreFirst texts texts
first-same texts = ([], sym (append-nil texts))

first-on : (a b c : List (List ℕ)) → AreFirst a b → AreFirst b c → AreFirst a c
first-on a b c (more, is) (others, is') = (more ++ others, is' ∙ ap (λ l. l ++ others) is ∙ append_assoc a more others)

first-step : (b : Bool) (t : List ℕ) (ts with : List (List ℕ)) → AreFirst ts with → AreFirst (t ∷ ts) (cond b (t ∷ ts) (t ∷ with))
first-step true t ts with is = first-same (t ∷ ts)
first-step false t ts with (more, is) = (more, ap (λ l. t ∷ l) is)

first-text : (text : List ℕ) (texts : List (List ℕ)) → AreFirst texts (with_text text texts)
first-text text [] = (text ∷ [], refl)
first-text text (t ∷ ts) = first-step (same_text t text) t ts (with_text text ts) (first-text text ts)

pub grew_not : (book : NameBook) → GrewAtEnd book book
grew_not book = record { classes = first-same book.classes; selectors = first-same book.selectors; bodies = first-same book.bodies }

pub grew_on : (a b c : NameBook) → GrewAtEnd a b → GrewAtEnd b c → GrewAtEnd a c
grew_on a b c first then = record {
  classes = first-on a.classes b.classes c.classes first.classes then.classes;
  selectors = first-on a.selectors b.selectors c.selectors first.selectors then.selectors;
  bodies = first-on a.bodies b.bodies c.bodies first.bodies then.bodies;
}

-- with a name more
pub grew_class : (old new : NameBook) (name : List ℕ) → new ≡ with_class_name old name → GrewAtEnd old new
grew_class old new name is = subst (λ b. GrewAtEnd old b) (sym is) (record { classes = first-text name old.classes; selectors = first-same old.selectors; bodies = first-same old.bodies })

pub grew_selector : (old new : NameBook) (name : List ℕ) → new ≡ with_selector_name old name → GrewAtEnd old new
grew_selector old new name is = subst (λ b. GrewAtEnd old b) (sym is) (record { classes = first-same old.classes; selectors = first-text name old.selectors; bodies = first-same old.bodies })

pub grew_body : (old new : NameBook) (name : List ℕ) → new ≡ with_body_name old name → GrewAtEnd old new
grew_body old new name is = subst (λ b. GrewAtEnd old b) (sym is) (record { classes = first-same old.classes; selectors = first-same old.selectors; bodies = first-text name old.bodies })

-- with the names of words
word-grows : (book : NameBook) (word : Word) (text : List ℕ) → GrewAtEnd book (with_word book word text)
word-grows book (Class number) text = grew_class book (with_class_name book text) text refl
word-grows book (Selector number) text = grew_selector book (with_selector_name book text) text refl
word-grows book (Body number) text = grew_body book (with_body_name book text) text refl
word-grows book word text = grew_not book

words-grow : (book : NameBook) (words : List Word) (texts : List (List ℕ)) → GrewAtEnd book (book_after book words texts)
words-grow book [] texts = grew_not book
words-grow book (word ∷ words) [] = grew_not book
words-grow book (word ∷ words) (text ∷ texts) = grew_on book (with_word book word text) (book_after book (word ∷ words) (text ∷ texts)) (word-grows book word text) (words-grow (with_word book word text) words texts)

pub grows_by_line : GrowsByLine
grows_by_line bytes before after line l = subst (λ b. GrewAtEnd before b) (sym l.numbered) (words-grow before (words_of line) l.texts)

-- a name keeps its number
stored-more : (texts more : List (List ℕ)) (number : ℕ) (text : List ℕ) → slice_get texts number ≡ Some text → slice_get (texts ++ more) number ≡ Some text
stored-more [] more number text is = absurd cc
stored-more (t ∷ texts) more zero text is = is
stored-more (t ∷ texts) more (suc number) text is = stored-more texts more number text is

stored-first : (first texts : List (List ℕ)) (number : ℕ) (text : List ℕ) → AreFirst first texts → slice_get first number ≡ Some text → slice_get texts number ≡ Some text
stored-first first texts number text (more, whole) is = ap (λ l. slice_get l number) whole ∙ stored-more first more number text is

word-stays : (before after : NameBook) (word : Word) (text : List ℕ) → GrewAtEnd before after → text_of_word before word ≡ Some text → text_of_word after word ≡ Some text
word-stays before after (Plain plain) text grew is = is
word-stays before after (Number number) text grew is = is
word-stays before after (Class number) text grew is = stored-first before.classes after.classes number text grew.classes is
word-stays before after (Selector number) text grew is = stored-first before.selectors after.selectors number text grew.selectors is
word-stays before after (Body number) text grew is = stored-first before.bodies after.bodies number text grew.bodies is

pub texts_stay : (before after : NameBook) (words : List Word) (texts : List (List ℕ)) → GrewAtEnd before after → AreTexts before words texts → AreTexts after words texts
texts_stay before after [] [] grew are = tt
texts_stay before after [] (text ∷ texts) grew are = are
texts_stay before after (word ∷ words) [] grew are = are
texts_stay before after (word ∷ words) (text ∷ texts) grew (is, are) = (word-stays before after word text grew is, texts_stay before after words texts grew are)

pub spelling_stays : SpellingStays
spelling_stays before after line text grew (texts, are, is) = (texts, texts_stay before after (words_of line) texts grew are, is)
