-- The books of a generated script: names with numbers, and how they grow.
use Rattle.std.proofs.Common.{◌≡◌, ℕ, ◌+◌, ◌<◌, ◌≤◌, Bool, true, false, cond, ◌&&◌, nat_le, IsTrue, zero, suc, List, [], ◌∷◌, ◌++◌, length, map, codes, decimal, None, Some, refl, sym, ap, subst, ◌∙◌, arith}
use Rattle.std.specs.List.{list_all, slice_get, range_with_len}
use Rattle.std.specs.Option.{option_map}
use Rattle.std.proofs.lemmas.Bool.{and_parts, and_from}
use Rattle.std.proofs.lemmas.Bool.Decides.{nat_tests}
use Rattle.std.proofs.lemmas.Fmt.{decimal_injective, length-decimal-le}
use Rattle.std.proofs.lemmas.List.FromFn.{length-map-range_with_len, get_or-map-range_with_len, map-range_with_len_more}
use Rattle.std.proofs.lemmas.Option.{slice_get-get_or}
use Rattle.dt_graph.proofs.SameLists.{same_list_equal}
use Rattle.dt_selectors.specs.Names.{is_name, is_name_byte, same_text, position_of, with_text}
use Rattle.dt_script.specs.NameBook.{NameBook}
use Rattle.dt_script.specs.LawfulBook.{LawfulTexts, LawfulBook}
use Rattle.dt_script.specs.Word.{Word, Plain, Number, Class, Selector, Body, AreTexts, text_of_word, with_word, book_after}
use Rattle.dt_script.specs.GeneratedLaws.{numbered_names, numbered_book}
use Rattle.dt_script.specs.GeneratedText.{generated_word}
use Rattle.dt_script.proofs.FitLines.{decimal-name}
use Rattle.dt_script.proofs.LawfulBooks.{NamesLaw, text-more, words_known}

-- a letter with a number
abbrev lettered : ℕ → ℕ → List ℕ
lettered letter number = letter ∷ decimal number

abbrev pub letters : ℕ → ℕ → List (List ℕ)
letters letter count = map (lettered letter) (range_with_len 0 count)

-- ---- names

pub name_lettered : (letter number : ℕ) → IsTrue (is_name_byte letter) → number < 65536 → IsTrue (is_name (lettered letter number))
name_lettered letter number is small =
    let few = length-decimal-le 5 number (omega arith) (omega arith) (omega arith) in
    let name = decimal-name number small in
    let inner = and_parts (nat_le 1 (length (decimal number))) (nat_le (length (decimal number)) 64 && list_all is_name_byte (decimal number)) name in
    let bytes = and_parts (nat_le (length (decimal number)) 64) (list_all is_name_byte (decimal number)) inner.1 in
    and_from (nat_le 1 (length (lettered letter number))) (nat_le (length (lettered letter number)) 64 && list_all is_name_byte (lettered letter number)) (grind (arith, nat_tests))
    (and_from (nat_le (length (lettered letter number)) 64) (list_all is_name_byte (lettered letter number)) (grind (arith, nat_tests))
    (and_from (is_name_byte letter) (list_all is_name_byte (decimal number)) is bytes.1))

-- two numbers are spelled differently
other_name : (letter a n : ℕ) → a < n → n < 65536 → same_text (lettered letter a) (lettered letter n) ≡ false
other_name letter a n less small = by (same_text (lettered letter a) (lettered letter n)) refl
  where
    by : (b : Bool) → same_text (lettered letter a) (lettered letter n) ≡ b → b ≡ false
    by false e = refl
    by true e =
        let same : lettered letter a ≡ lettered letter n = same_list_equal (lettered letter a) (lettered letter n) e in
        let digits : decimal a ≡ decimal n = cc in
        let equal = decimal_injective a n (omega arith) (omega arith) digits in
        absurd (omega (arith, equal, less))

-- a number that comes later has no name yet
fresh : (letter a m n : ℕ) → a + m ≤ n → n < 65536 → position_of (lettered letter n) (map (lettered letter) (range_with_len a m)) ≡ None
fresh letter a zero n below small = refl
fresh letter a (suc m) n below small =
    let rest = fresh letter (a + 1) m n (omega (arith, below)) small in
    ap (λ b. cond b (Some 0) (option_map (λ place. place + 1) (position_of (lettered letter n) (map (lettered letter) (range_with_len (a + 1) m))))) (other_name letter a n (omega (arith, below)) small)
    ∙ ap (λ o. option_map (λ place. place + 1) o) rest

-- the next name comes last
next_name : NamesLaw → (letter n : ℕ) → n < 65536 → with_text (lettered letter n) (letters letter n) ≡ letters letter (n + 1)
next_name law letter n small =
    (law.new (record { limit = 0; texts = letters letter n }) (lettered letter n) (fresh letter 0 n n (omega arith) small)).1
    ∙ sym (map-range_with_len_more (lettered letter) 0 n n (omega arith))

lawful_letters : NamesLaw → (letter n : ℕ) → IsTrue (is_name_byte letter) → n ≤ 65536 → LawfulTexts (letters letter n)
lawful_letters law letter zero is few = record {
  distinct = λ number text there. absurd cc;
  are_names = λ k d below. absurd (omega (arith, below));
}
lawful_letters law letter (suc n) is few =
    let one : n + 1 ≡ suc n = omega arith in
    subst LawfulTexts (next_name law letter n (omega (arith, few)) ∙ ap (letters letter) one)
    (text-more law (lettered letter n) (letters letter n) (lawful_letters law letter n is (omega (arith, few))) (name_lettered letter n is (omega (arith, few))))

stored : (letter n k : ℕ) → k < n → slice_get (letters letter n) k ≡ Some (lettered letter k)
stored letter n k below =
    slice_get-get_or (letters letter n) k [] (omega (arith, length-map-range_with_len (lettered letter) 0 n, below))
    ∙ ap Some (get_or-map-range_with_len (lettered letter) 0 n k k [] below (omega arith))

-- ---- books

pub lawful_book : NamesLaw → (classes selectors bodies : ℕ) → classes ≤ 65536 → selectors ≤ 65536 → bodies ≤ 65536 → LawfulBook (numbered_book classes selectors bodies)
lawful_book law classes selectors bodies c s b = record {
  classes = lawful_letters law 99 classes refl c;
  selectors = lawful_letters law 115 selectors refl s;
  bodies = lawful_letters law 98 bodies refl b;
}

-- a word that has its name in the book
abbrev pub IsIn : ℕ → ℕ → ℕ → Word → Type 0
IsIn classes selectors bodies (Plain text) = Unit {0}
IsIn classes selectors bodies (Number number) = Unit {0}
IsIn classes selectors bodies (Class number) = number < classes
IsIn classes selectors bodies (Selector number) = number < selectors
IsIn classes selectors bodies (Body number) = number < bodies

abbrev pub AreIn : ℕ → ℕ → ℕ → List Word → Type 0
AreIn classes selectors bodies [] = Unit {0}
AreIn classes selectors bodies (word ∷ words) = IsIn classes selectors bodies word × AreIn classes selectors bodies words

text_in : (classes selectors bodies : ℕ) (word : Word) → IsIn classes selectors bodies word → text_of_word (numbered_book classes selectors bodies) word ≡ Some (generated_word word)
text_in classes selectors bodies (Plain text) is = refl
text_in classes selectors bodies (Number number) is = refl
text_in classes selectors bodies (Class number) is = stored 99 classes number is
text_in classes selectors bodies (Selector number) is = stored 115 selectors number is
text_in classes selectors bodies (Body number) is = stored 98 bodies number is

pub texts_in : (classes selectors bodies : ℕ) (words : List Word) → AreIn classes selectors bodies words → AreTexts (numbered_book classes selectors bodies) words (map generated_word words)
texts_in classes selectors bodies [] are = tt
texts_in classes selectors bodies (word ∷ words) (is, are) = (text_in classes selectors bodies word is, texts_in classes selectors bodies words are)

-- the book with the next name of each kind
pub next_class : NamesLaw → (classes selectors bodies : ℕ) → classes < 65536 → with_word (numbered_book classes selectors bodies) (Class classes) (generated_word (Class classes)) ≡ numbered_book (classes + 1) selectors bodies
next_class law classes selectors bodies small =
    ap (λ l. record { classes = l; selectors = numbered_names (codes "s") selectors; bodies = numbered_names (codes "b") bodies }) (next_name law 99 classes small)

pub next_selector : NamesLaw → (classes selectors bodies : ℕ) → selectors < 65536 → with_word (numbered_book classes selectors bodies) (Selector selectors) (generated_word (Selector selectors)) ≡ numbered_book classes (selectors + 1) bodies
next_selector law classes selectors bodies small =
    ap (λ l. record { classes = numbered_names (codes "c") classes; selectors = l; bodies = numbered_names (codes "b") bodies }) (next_name law 115 selectors small)

pub next_body : NamesLaw → (classes selectors bodies : ℕ) → bodies < 65536 → with_word (numbered_book classes selectors bodies) (Body bodies) (generated_word (Body bodies)) ≡ numbered_book classes selectors (bodies + 1)
next_body law classes selectors bodies small =
    ap (λ l. record { classes = numbered_names (codes "c") classes; selectors = numbered_names (codes "s") selectors; bodies = l }) (next_name law 98 bodies small)

-- ---- the book after words

after-append : (book : NameBook) (xs ys : List Word) → book_after book (xs ++ ys) (map generated_word (xs ++ ys)) ≡ book_after (book_after book xs (map generated_word xs)) ys (map generated_word ys)
after-append book [] ys = refl
after-append book (x ∷ xs) ys = after-append (with_word book x (generated_word x)) xs ys

-- one new name among known ones
pub one_new : NamesLaw → (before after : NameBook) (xs ys : List Word) (new : Word) → LawfulBook before → LawfulBook after → AreTexts before xs (map generated_word xs)
    → with_word before new (generated_word new) ≡ after → AreTexts after ys (map generated_word ys)
    → book_after before (xs ++ new ∷ ys) (map generated_word (xs ++ new ∷ ys)) ≡ after
one_new law before after xs ys new lawful lawful' are is are' =
    after-append before xs (new ∷ ys)
    ∙ ap (λ b. book_after b (new ∷ ys) (map generated_word (new ∷ ys))) (words_known law before xs (map generated_word xs) lawful are)
    ∙ ap (λ b. book_after b ys (map generated_word ys)) is
    ∙ words_known law after ys (map generated_word ys) lawful' are'
