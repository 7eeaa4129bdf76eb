-- A lawful book stays lawful with names more, and is the same with names that it has.
use Rattle.std.proofs.Common.{◌≡◌, ℕ, zero, suc, ◌⊎◌, IsTrue, List, [], ◌∷◌, ◌++◌, length, Option, None, Some, inl, inr, All, refl, sym, ap, subst, ◌∙◌}
use Rattle.std.specs.List.{list_all, slice_get}
use Rattle.std.proofs.lemmas.Bool.{and_parts}
use Rattle.std.proofs.lemmas.List.Elements.{All-push}
use Rattle.dt_selectors.specs.Names.{Names, is_name, position_of, with_text}
use Rattle.dt_selectors.specs.Laws.{NumbersStay, NewNamesAreLast, KnownNamesStay}
use Rattle.dt_script.specs.NameBook.{NameBook}
use Rattle.dt_script.specs.LawfulBook.{LawfulTexts, LawfulBook}
use Rattle.dt_script.specs.Word.{Word, Class, Selector, Body, AreTexts, text_of_word, with_word, book_after}

-- what is known of one name more
pub record NamesLaw : Type 0 where
  pub stay : NumbersStay
  pub new : NewNamesAreLast
  pub known : KnownNamesStay

-- the texts as names
abbrev names_of : List (List ℕ) → Names
names_of texts = record { limit = 0; texts = texts }

pub text-known : NamesLaw → (name : List ℕ) (texts : List (List ℕ)) (number : ℕ) → LawfulTexts texts → slice_get texts number ≡ Some name → with_text name texts ≡ texts
text-known law name texts number lawful is = ap (λ names. names.texts) (law.known (names_of texts) name number (lawful.distinct number name is))

-- a text of the longer list is one of the list, or the last
last-cases : (texts : List (List ℕ)) (last text : List ℕ) (number : ℕ) → slice_get (texts ++ last ∷ []) number ≡ Some text
    → (slice_get texts number ≡ Some text) ⊎ ((length texts ≡ number) × (last ≡ text))
last-cases [] last text zero e = inr (refl, cc)
last-cases [] last text (suc number) e = absurd cc
last-cases (t ∷ texts) last text zero e = inl e
last-cases (t ∷ texts) last text (suc number) e =
    elim (last-cases texts last text number e) [ inl h ↦ inl h | inr h ↦ inr (ap (λ n. suc n) h.0, h.1) ]

pub text-more : NamesLaw → (name : List ℕ) (texts : List (List ℕ)) → LawfulTexts texts → IsTrue (is_name name) → LawfulTexts (with_text name texts)
text-more law name texts lawful is = by (position_of name texts) refl
  where
    by : (o : Option ℕ) → position_of name texts ≡ o → LawfulTexts (with_text name texts)
    by (Some number) e = subst LawfulTexts (sym (ap (λ names. names.texts) (law.known (names_of texts) name number e))) lawful
    by None e =
        let (at, last) = law.new (names_of texts) name e in
        record {
          distinct = λ number text there. elim (last-cases texts name text number (subst (λ l. slice_get l number ≡ Some text) last there)) [
            | inl h ↦ law.stay (names_of texts) text name number (lawful.distinct number text h)
            | inr h ↦ subst (λ t. position_of t (with_text name texts) ≡ Some number) h.1 (at ∙ ap (λ n. Some n) h.0)
          ];
          are_names = subst (λ l. All (λ t. IsTrue (is_name t)) l) (sym last) (All-push (λ t. IsTrue (is_name t)) texts name lawful.are_names is);
        }

word-more : NamesLaw → (book : NameBook) (word : Word) (text : List ℕ) → LawfulBook book → IsTrue (is_name text) → LawfulBook (with_word book word text)
word-more law book (Class number) text lawful is = record { classes = text-more law text book.classes lawful.classes is; selectors = lawful.selectors; bodies = lawful.bodies }
word-more law book (Selector number) text lawful is = record { classes = lawful.classes; selectors = text-more law text book.selectors lawful.selectors is; bodies = lawful.bodies }
word-more law book (Body number) text lawful is = record { classes = lawful.classes; selectors = lawful.selectors; bodies = text-more law text book.bodies lawful.bodies is }
word-more law book word text lawful is = lawful

pub words_more : NamesLaw → (book : NameBook) (words : List Word) (texts : List (List ℕ)) → LawfulBook book → IsTrue (list_all is_name texts) → LawfulBook (book_after book words texts)
words_more law book [] texts lawful are = lawful
words_more law book (word ∷ words) [] lawful are = lawful
words_more law book (word ∷ words) (text ∷ texts) lawful are =
    let parts = and_parts (is_name text) (list_all is_name texts) are in
    words_more law (with_word book word text) words texts (word-more law book word text lawful parts.0) parts.1

-- the book is the same with names that it has
word-known : NamesLaw → (book : NameBook) (word : Word) (text : List ℕ) → LawfulBook book → text_of_word book word ≡ Some text → with_word book word text ≡ book
word-known law book (Class number) text lawful is = ap (λ l. record { classes = l; selectors = book.selectors; bodies = book.bodies }) (text-known law text book.classes number lawful.classes is)
word-known law book (Selector number) text lawful is = ap (λ l. record { classes = book.classes; selectors = l; bodies = book.bodies }) (text-known law text book.selectors number lawful.selectors is)
word-known law book (Body number) text lawful is = ap (λ l. record { classes = book.classes; selectors = book.selectors; bodies = l }) (text-known law text book.bodies number lawful.bodies is)
word-known law book word text lawful is = refl

pub words_known : NamesLaw → (book : NameBook) (words : List Word) (texts : List (List ℕ)) → LawfulBook book → AreTexts book words texts → book_after book words texts ≡ book
words_known law book [] texts lawful are = refl
words_known law book (word ∷ words) [] lawful are = refl
words_known law book (word ∷ words) (text ∷ texts) lawful (is, are) =
    ap (λ b. book_after b words texts) (word-known law book word text lawful is) ∙ words_known law book words texts lawful are
