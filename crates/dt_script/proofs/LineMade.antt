-- A line with its names as texts, once they have numbers, is the line that its bytes are.
use Rattle.std.proofs.Common.{◌≡◌, ◌==◌, ℕ, Bool, true, false, cond, ◌+◌, add-one, ◌<◌, IsTrue, List, [], ◌∷◌, ◌++◌, length, map, codes, Option, Some, None, is_some, option_map, unwrap_or, refl, sym, ap, subst, ◌∙◌, arith}
use Rattle.std.specs.Prelude.{slice_get}
use Rattle.std.specs.List.{list_all, join_with_byte}
use Rattle.std.proofs.lemmas.List.Splits.{join_with_byte-slice_split}
use Rattle.std.proofs.lemmas.Bool.{and_parts, eqb-true}
use Rattle.dt_selectors.specs.Names.{is_name, same_text, position_of, with_text}
use Rattle.dt_script.specs.NameBook.{NameBook, number_in}
use Rattle.dt_script.specs.Cut.{parts_at}
use Rattle.dt_script.specs.Word.{Word, AreTexts, text_of_word, book_after, with_word}
use Rattle.dt_script.specs.Word as word
use Rattle.dt_script.specs.Line.{words_of, is_in_range, LineOf}
use Rattle.dt_script.specs.Numbering.{numbers_in}
use Rattle.dt_script.specs.Written.{Token, Plain, Number, ClassName, SelectorName, BodyName, text_of_token, with_token, with_tokens, tokens_of, texts_of, texts_of_classes, is_written_in_range, line_in}
use Rattle.dt_script.specs.WrittenLine.{IsWrittenLine}
use Rattle.dt_script.specs.declared.line.Line.TheVariants as line
use Rattle.dt_script.specs.declared.written.Classes.{Classes}
use Rattle.dt_script.specs.declared.written.Classes.TheVariants.{One, Two, Three, Four}
use Rattle.dt_script.specs.declared.written.Written.{Written}
use Rattle.dt_script.specs.declared.written.Written.TheVariants as written
use Rattle.dt_script.proofs.Parts.{some_part}
use Rattle.dt_script.proofs.NumbersStay.{kept, named}

-- ---- a name stands at its number

same : (a b : List ℕ) → same_text a b ≡ true → a ≡ b
same [] [] e = refl
same [] (y ∷ ys) e = absurd cc
same (x ∷ xs) [] e = absurd cc
same (x ∷ xs) (y ∷ ys) e =
    let both = and_parts (x == y) (same_text xs ys) e in
    let first : x ≡ y = eqb-true x y both.0 in
    let rest = same xs ys both.1 in
    cc

-- the number of a known name
placed-step : (b : Bool) (name t : List ℕ) (ts : List (List ℕ)) (o : Option ℕ) → same_text t name ≡ b → (is_some o ≡ true → slice_get ts (unwrap_or o 0) ≡ Some name)
    → is_some (cond b (Some 0) (option_map (λ place. place + 1) o)) ≡ true → slice_get (t ∷ ts) (unwrap_or (cond b (Some 0) (option_map (λ place. place + 1) o)) 0) ≡ Some name
placed-step true name t ts o e there known = ap (λ x. Some x) (same t name e)
placed-step false name t ts None e there known = absurd cc
placed-step false name t ts (Some place) e there known = rw add-one (there refl)

placed : (name : List ℕ) (texts : List (List ℕ)) → is_some (position_of name texts) ≡ true → slice_get texts (number_in texts name) ≡ Some name
placed name [] known = absurd cc
placed name (t ∷ ts) known = placed-step (same_text t name) name t ts (position_of name ts) refl (placed name ts) known

-- ---- the names of a line are known after it

abbrev IsKnown : NameBook → Token → Type 0
IsKnown book (Plain text) = Unit {0}
IsKnown book (Number number) = Unit {0}
IsKnown book (ClassName text) = is_some (position_of text book.classes) ≡ true
IsKnown book (SelectorName text) = is_some (position_of text book.selectors) ≡ true
IsKnown book (BodyName text) = is_some (position_of text book.bodies) ≡ true

stays : (name other : List ℕ) (texts : List (List ℕ)) → is_some (position_of name texts) ≡ true → is_some (position_of name (with_text other texts)) ≡ true
stays name other texts known = ap is_some (kept name other texts known) ∙ known

stays_known : (book : NameBook) (known other : Token) → IsKnown book known → IsKnown (with_token book other) known
stays_known book (ClassName text) (ClassName other) is = stays text other book.classes is
stays_known book (SelectorName text) (SelectorName other) is = stays text other book.selectors is
stays_known book (BodyName text) (BodyName other) is = stays text other book.bodies is
stays_known book known other is = is

known_after : (book : NameBook) (known : Token) (tokens : List Token) → IsKnown book known → IsKnown (with_tokens book tokens) known
known_after book known [] is = is
known_after book known (token ∷ tokens) is = known_after (with_token book token) known tokens (stays_known book known token is)

known_now : (book : NameBook) (token : Token) → IsKnown (with_token book token) token
known_now book (Plain text) = tt
known_now book (Number number) = tt
known_now book (ClassName text) = named text book.classes
known_now book (SelectorName text) = named text book.selectors
known_now book (BodyName text) = named text book.bodies

-- ---- the words of the line with numbers

abbrev word_of : NameBook → Token → Word
word_of book (Plain text) = word.Plain text
word_of book (Number number) = word.Number number
word_of book (ClassName text) = word.Class (number_in book.classes text)
word_of book (SelectorName text) = word.Selector (number_in book.selectors text)
word_of book (BodyName text) = word.Body (number_in book.bodies text)

text-known : (book : NameBook) (token : Token) → IsKnown book token → text_of_word book (word_of book token) ≡ Some (text_of_token token)
text-known book (Plain text) is = refl
text-known book (Number number) is = refl
text-known book (ClassName text) is = placed text book.classes is
text-known book (SelectorName text) is = placed text book.selectors is
text-known book (BodyName text) is = placed text book.bodies is

texts-known : (book after : NameBook) (tokens : List Token) → after ≡ with_tokens book tokens → AreTexts after (map (word_of after) tokens) (map text_of_token tokens)
texts-known book after [] is = tt
texts-known book after (token ∷ tokens) is = (
  text-known after token (subst (λ (b : NameBook). IsKnown b token) (sym is) (known_after (with_token book token) token tokens (known_now book token))),
  texts-known (with_token book token) after tokens is,
)

word-book : (book after : NameBook) (token : Token) → with_word book (word_of after token) (text_of_token token) ≡ with_token book token
word-book book after (Plain text) = refl
word-book book after (Number number) = refl
word-book book after (ClassName text) = refl
word-book book after (SelectorName text) = refl
word-book book after (BodyName text) = refl

books-same : (book after : NameBook) (tokens : List Token) → book_after book (map (word_of after) tokens) (map text_of_token tokens) ≡ with_tokens book tokens
books-same book after [] = refl
books-same book after (token ∷ tokens) =
    ap (λ b. book_after b (map (word_of after) tokens) (map text_of_token tokens)) (word-book book after token) ∙ books-same (with_token book token) after tokens

names-words : (book : NameBook) (names : List (List ℕ)) (more : List Token) → map (word_of book) (map ClassName names ++ more) ≡ map word.Class (numbers_in book names) ++ map (word_of book) more
names-words book [] more = refl
names-words book (name ∷ names) more = ap (λ l. word.Class (number_in book.classes name) ∷ l) (names-words book names more)

names-alone : (book : NameBook) (names : List (List ℕ)) → map (word_of book) (map ClassName names) ≡ map word.Class (numbers_in book names)
names-alone book [] = refl
names-alone book (name ∷ names) = ap (λ l. word.Class (number_in book.classes name) ∷ l) (names-alone book names)

subclass-words : (book : NameBook) (class : ℕ) (names : List (List ℕ)) → 0 < length names
    → words_of (line.AddClass class (numbers_in book names)) ≡ word.Plain (codes "class") ∷ word.Class class ∷ word.Plain (codes "<") ∷ map (word_of book) (map ClassName names)
subclass-words book class [] some = absurd (omega (arith, some))
subclass-words book class (name ∷ names) some =
    ap (λ l. word.Plain (codes "class") ∷ word.Class class ∷ word.Plain (codes "<") ∷ word.Class (number_in book.classes name) ∷ l) (sym (names-alone book names))

words-line : (book : NameBook) (w : Written) → words_of (line_in book w) ≡ map (word_of book) (tokens_of w)
words-line book (written.AddSubclass class parents) = subclass-words book (number_in book.classes class.now) (parts_at 32 parents.now) (some_part 32 parents.now)
words-line book (written.Define selector classes body) =
    ap (λ l. word.Plain (codes "define") ∷ word.Selector (number_in book.selectors selector.now) ∷ l)
    (sym (names-words book (texts_of_classes classes) (Plain (codes "->") ∷ BodyName body.now ∷ [])))
words-line book (written.Undefine selector classes) =
    ap (λ l. word.Plain (codes "undefine") ∷ word.Selector (number_in book.selectors selector.now) ∷ l) (sym (names-alone book (texts_of_classes classes)))
words-line book (written.Call selector classes) =
    ap (λ l. word.Plain (codes "call") ∷ word.Selector (number_in book.selectors selector.now) ∷ l) (sym (names-alone book (texts_of_classes classes)))
words-line book w = refl

-- ---- the numbers that are no names

classes-range : (book : NameBook) (classes : Classes) → IsTrue (is_in_range (line.Undefine 0 (numbers_in book (texts_of_classes classes))))
classes-range book (One a) = refl
classes-range book (Two a b) = refl
classes-range book (Three a b c) = refl
classes-range book (Four a b c d) = refl

range-line : (book : NameBook) (w : Written) → IsTrue (is_written_in_range w) → IsTrue (is_in_range (line_in book w))
range-line book (written.AddSelector selector arity) range = range
range-line book (written.Define selector classes body) range = classes-range book classes
range-line book (written.Undefine selector classes) range = classes-range book classes
range-line book (written.Caller caller) range = range
range-line book (written.Call selector classes) range = classes-range book classes
range-line book w range = refl

-- ---- the line

pub line_made : (bytes : List ℕ) (w : Written) (before after : NameBook) → IsWrittenLine bytes (Some w) → after ≡ with_tokens before (tokens_of w) → LineOf bytes before (line_in after w) after
line_made bytes w before after (whole, are, range) is = record {
  texts = texts_of w;
  spelled = sym (join_with_byte-slice_split 32 bytes) ∙ ap (join_with_byte 32) (sym whole);
  are_words = subst (λ (l : List (List ℕ)). IsTrue (list_all is_name l)) (sym whole) are;
  written = subst (λ (ws : List Word). AreTexts after ws (texts_of w)) (sym (words-line after w)) (texts-known before after (tokens_of w) is);
  numbered = is ∙ sym (books-same before after (tokens_of w)) ∙ ap (λ ws. book_after before ws (texts_of w)) (sym (words-line after w));
  in_range = range-line after w range;
}
