-- The line that has some texts: what was printed is read again.
use Rattle.std.proofs.Common.{◌≡◌, ℕ, ◌<◌, ◌≤◌, ◌^◌, Bool, true, ◌&&◌, IsTrue, nat_eq, nat_le, nat_lt, if◌then◌else◌, List, [], ◌∷◌, length, drop, get_or, map, codes, decimal, Option, Some, None, is_some, unwrap_or, slice_get, All, subst, refl, ap, ◌∙◌, arith}
use Rattle.std.specs.List.{list_all}
use Rattle.std.specs.Str.Parse.{digits_value, AllDigits}
use Rattle.std.proofs.lemmas.Bool.{and_parts}
use Rattle.std.proofs.lemmas.Bool.Decides.{nat_tests}
use Rattle.std.proofs.lemmas.Option.{slice_get_within, get_or_from_slice_get}
use Rattle.std.proofs.lemmas.Fmt.{decimal_is_IsNumeral}
use Rattle.std.proofs.lemmas.Str.Parse.{digit_from_value}
use Rattle.dt_definitions.specs.declared.why.Why.{Why}
use Rattle.dt_definitions.specs.declared.why.Why.TheVariants.{ClassExists, ClassUnknown, ParentTwice, TooManyParents, HasSubclasses, LinkExists, LinkUnknown, Cycle, SelectorExists, SelectorUnknown, ArityDiffers, NoDefinition, HasDefinitions, DefinitionsFull}
use Rattle.dt_definitions.specs.RefusalWords.{number_of}
use Rattle.dt_scratch.specs.declared.reply.Answer.TheVariants.{Method, NotUnderstood, Ambiguous}
use Rattle.dt_scratch.specs.declared.reply.Reply.{Reply}
use Rattle.dt_scratch.specs.declared.reply.Reply.TheVariants.{NoSelector, WrongArity, NoClass, Answered}
use Rattle.dt_selectors.specs.Names.{same_text, position_of, is_name, is_name_byte}
use Rattle.dt_selectors.specs.Lawful.{HasDistinctTexts}
use Rattle.dt_script.specs.NameBook.{NameBook}
use Rattle.dt_script.specs.LawfulBook.{LawfulBook}
use Rattle.dt_script.specs.Named.{has_text}
use Rattle.dt_script.specs.Word.{Word, Plain, Number, Class, Selector, Body}
use Rattle.dt_script.specs.Writing.{word_text}
use Rattle.dt_run.specs.Text.{words_of_why, words_of_edit_line, words_of_reply, words_of_call_line}
use Rattle.dt_run.specs.TextLaws.{is_word_in_range}
use Rattle.dt_run.proofs.TextCut.{Free}
use Rattle.dt_run.specs.declared.log.CallLine.{CallLine}
use Rattle.dt_run.specs.declared.log.CallLine.TheVariants.{Called, CallWorn, PinnedAt, PinWorn, Unpinned}
use Rattle.dt_run.specs.declared.log.EditLine.{EditLine}
use Rattle.dt_run.specs.declared.log.EditLine.TheVariants.{Accepted, Refused, VersionsFull, CellsFull, RowsFull, NoPages}

-- the texts of words
abbrev pub texts_of : NameBook → List Word → List (List ℕ)
texts_of book words = map (word_text book) words

-- whether the bytes print, no space among them
abbrev pub is_solid : List ℕ → Bool
is_solid text = list_all (λ byte. nat_le 33 byte) text

abbrev pub is_solid_word : Word → Bool
is_solid_word (Plain text) = is_solid text
is_solid_word _ = true

-- whether the word has a text that tells it
abbrev pub is_good : NameBook → Word → Bool
is_good book word = has_text book word && (is_word_in_range word && is_solid_word word)

abbrev pub AreGood : NameBook → List Word → Type 0
AreGood book words = IsTrue (list_all (is_good book) words)

-- ---- numbers and names

good_number : (n : ℕ) → IsTrue (nat_lt n (2 ^ 64) && true) → n < 2 ^ 64
good_number n good = let is : IsTrue (nat_lt n (2 ^ 64)) = (and_parts (nat_lt n (2 ^ 64)) true good).0 in grind (arith, nat_tests)

number_back : (n : ℕ) → IsTrue (nat_lt n (2 ^ 64) && true) → digits_value 10 (decimal n) ≡ n
number_back n good = (decimal_is_IsNumeral n (good_number n good)).1

-- whether the text begins like a number
abbrev begins_as_number : List ℕ → Bool
begins_as_number text = nat_le (get_or text 0 0) 57

number_begins : (n : ℕ) → IsTrue (nat_lt n (2 ^ 64) && true) → begins_as_number (decimal n) ≡ true
number_begins n good = by (decimal n) (decimal_is_IsNumeral n (good_number n good)).0
  where
    by : (ds : List ℕ) → (0 < length ds) × AllDigits 10 ds → begins_as_number ds ≡ true
    by [] (some, are) = absurd (omega (arith, some))
    by (d ∷ ds) (some, (is, are)) = let r = digit_from_value d is in let e : d ≤ 57 = omega (arith, r) in grind (arith, nat_tests)

-- the number of a name
abbrev number_in : List (List ℕ) → List ℕ → ℕ
number_in texts text = unwrap_or (position_of text texts) 0

name_back : (texts : List (List ℕ)) (n : ℕ) → HasDistinctTexts texts → IsTrue (is_some (slice_get texts n) && true) → number_in texts (unwrap_or (slice_get texts n) []) ≡ n
name_back texts n distinct good = by (slice_get texts n) refl (and_parts (is_some (slice_get texts n)) true good).0
  where
    by : (o : Option (List ℕ)) → slice_get texts n ≡ o → IsTrue (is_some o) → number_in texts (unwrap_or o []) ≡ n
    by None e some = absurd cc
    by (Some text) e some = ap (λ o. unwrap_or o 0) (distinct n text e)

-- ---- refusals

abbrev why_from : ℕ → ℕ → Why
why_from number class =
    if nat_eq number 1 then ClassExists else (if nat_eq number 2 then ClassUnknown class else (if nat_eq number 3 then ParentTwice class else
    (if nat_eq number 4 then TooManyParents else (if nat_eq number 5 then HasSubclasses class else (if nat_eq number 6 then LinkExists else
    (if nat_eq number 7 then LinkUnknown else (if nat_eq number 8 then Cycle else (if nat_eq number 10 then SelectorExists else
    (if nat_eq number 11 then SelectorUnknown else (if nat_eq number 12 then ArityDiffers else (if nat_eq number 13 then NoDefinition else
    (if nat_eq number 14 then HasDefinitions else DefinitionsFull))))))))))))

-- what is good of a word is good of it
the_first : (a b : Bool) → IsTrue (a && b) → IsTrue a
the_first a b good = (and_parts a b good).0

why_back : (book : NameBook) (why : Why) → HasDistinctTexts book.classes → AreGood book (words_of_why why)
    → why_from (number_of why) (number_in book.classes (get_or (texts_of book (words_of_why why)) 1 [])) ≡ why
why_back book (ClassUnknown class) distinct good = ap ClassUnknown (name_back book.classes class distinct (the_first _ true good))
why_back book (ParentTwice class) distinct good = ap ParentTwice (name_back book.classes class distinct (the_first _ true good))
why_back book (HasSubclasses class) distinct good = ap HasSubclasses (name_back book.classes class distinct (the_first _ true good))
why_back book why distinct good = refl

-- ---- lines of batches

abbrev pub edit_from : NameBook → List (List ℕ) → EditLine
edit_from book texts = let kind = get_or texts 1 [] in
    if same_text kind (codes "accepted") then Accepted (digits_value 10 (get_or texts 2 [])) else
    (if same_text kind (codes "refused") then Refused (digits_value 10 (get_or texts 2 [])) (why_from (digits_value 10 (get_or texts 3 [])) (number_in book.classes (get_or (drop 4 texts) 1 []))) else
    (if same_text kind (codes "versions-full") then VersionsFull else (if same_text kind (codes "cells-full") then CellsFull else
    (if same_text kind (codes "rows-full") then RowsFull else NoPages (digits_value 10 (get_or texts 2 [])) (digits_value 10 (get_or texts 3 []))))))

pub edit_back : (book : NameBook) (line : EditLine) → LawfulBook book → AreGood book (words_of_edit_line line) → edit_from book (texts_of book (words_of_edit_line line)) ≡ line
edit_back book (Accepted version) lawful good = ap Accepted (number_back version (the_first _ true good))
edit_back book (Refused at why) lawful good =
    let parts = and_parts (nat_lt at (2 ^ 64) && true) (is_good book (Number (number_of why)) && list_all (is_good book) (words_of_why why)) good in
    let more = and_parts (is_good book (Number (number_of why))) (list_all (is_good book) (words_of_why why)) parts.1 in
    (λ i. Refused (number_back at parts.0 i) (why_from (number_back (number_of why) more.0 i) (number_in book.classes (get_or (texts_of book (words_of_why why)) 1 []))))
    ∙ ap (λ w. Refused at w) (why_back book why lawful.classes.distinct more.1)
edit_back book VersionsFull lawful good = refl
edit_back book CellsFull lawful good = refl
edit_back book RowsFull lawful good = refl
edit_back book (NoPages need free) lawful good =
    let parts = and_parts (nat_lt need (2 ^ 64) && true) (is_good book (Number free) && true) good in
    λ i. NoPages (number_back need parts.0 i) (number_back free (the_first _ true parts.1) i)

-- ---- replies

abbrev reply_from : NameBook → List (List ℕ) → Reply
reply_from book texts = let kind = get_or texts 0 [] in
    if same_text kind (codes "method") then Answered (Method (number_in book.bodies (get_or texts 1 []))) else
    (if same_text kind (codes "ambiguous") then Answered Ambiguous else (if same_text kind (codes "not-understood") then Answered NotUnderstood else
    (if same_text kind (codes "no-selector") then NoSelector else (if same_text kind (codes "wrong-arity") then WrongArity else NoClass (digits_value 10 (get_or texts 1 []))))))

reply_back : (book : NameBook) (reply : Reply) → LawfulBook book → AreGood book (words_of_reply reply) → reply_from book (texts_of book (words_of_reply reply)) ≡ reply
reply_back book (Answered (Method body)) lawful good = ap (λ b. Answered (Method b)) (name_back book.bodies body lawful.bodies.distinct (the_first _ true good))
reply_back book (Answered Ambiguous) lawful good = refl
reply_back book (Answered NotUnderstood) lawful good = refl
reply_back book NoSelector lawful good = refl
reply_back book WrongArity lawful good = refl
reply_back book (NoClass place) lawful good = ap NoClass (number_back place (the_first _ true good))

-- ---- lines of callers

abbrev pub call_from : NameBook → List (List ℕ) → CallLine
call_from book texts = let kind = get_or texts 0 [] in
    if same_text kind (codes "call") then
    (if begins_as_number (get_or texts 2 []) then Called (record { version = digits_value 10 (get_or texts 2 []); reply = reply_from book (drop 3 texts) }) else CallWorn (digits_value 10 (get_or texts 3 []))) else
    (if same_text kind (codes "pin") then (if begins_as_number (get_or texts 2 []) then PinnedAt (digits_value 10 (get_or texts 2 [])) else PinWorn (digits_value 10 (get_or texts 3 []))) else Unpinned)

pub call_back : (book : NameBook) (caller : ℕ) (line : CallLine) → LawfulBook book → AreGood book (words_of_call_line caller line)
    → call_from book (texts_of book (words_of_call_line caller line)) ≡ line
call_back book caller (Called stamped) lawful good =
    let parts = and_parts (nat_lt caller (2 ^ 64) && true) (is_good book (Number stamped.version) && list_all (is_good book) (words_of_reply stamped.reply)) good in
    let more = and_parts (is_good book (Number stamped.version)) (list_all (is_good book) (words_of_reply stamped.reply)) parts.1 in
    let texts = texts_of book (words_of_reply stamped.reply) in
    (λ i. if number_begins stamped.version more.0 i then Called (record { version = number_back stamped.version more.0 i; reply = reply_from book texts }) else CallWorn (digits_value 10 (get_or texts 0 [])))
    ∙ ap (λ r. Called (record { version = stamped.version; reply = r })) (reply_back book stamped.reply lawful more.1)
call_back book caller (CallWorn entries) lawful good =
    let parts = and_parts (nat_lt caller (2 ^ 64) && true) (is_good book (Number entries) && true) good in
    ap CallWorn (number_back entries (the_first _ true parts.1))
call_back book caller (PinnedAt version) lawful good =
    let parts = and_parts (nat_lt caller (2 ^ 64) && true) (is_good book (Number version) && true) good in
    let n = the_first (is_good book (Number version)) true parts.1 in
    λ i. if number_begins version n i then PinnedAt (number_back version n i) else PinWorn (digits_value 10 [])
call_back book caller (PinWorn entries) lawful good =
    let parts = and_parts (nat_lt caller (2 ^ 64) && true) (is_good book (Number entries) && true) good in
    ap PinWorn (number_back entries (the_first _ true parts.1))
call_back book caller Unpinned lawful good = refl

-- ---- the first line of a phase, and the last

pub phase_back : (book : NameBook) (number from to : ℕ) → AreGood book (Number number ∷ Number from ∷ Number to ∷ [])
    → (digits_value 10 (decimal from) ≡ from) × (digits_value 10 (decimal to) ≡ to)
phase_back book number from to good =
    let parts = and_parts (is_good book (Number number)) (is_good book (Number from) && (is_good book (Number to) && true)) good in
    let more = and_parts (is_good book (Number from)) (is_good book (Number to) && true) parts.1 in
    (number_back from more.0, number_back to (the_first (is_good book (Number to)) true more.1))

pub last_back : (book : NameBook) (last : ℕ) → AreGood book (Number last ∷ []) → digits_value 10 (decimal last) ≡ last
last_back book last good = number_back last (the_first (is_good book (Number last)) true good)

-- ---- no text of a word has a byte below 33

free_solid : (c : ℕ) (text : List ℕ) → c < 33 → IsTrue (is_solid text) → Free c text
free_solid c [] low solid = tt
free_solid c (x ∷ xs) low solid =
    let parts = and_parts (nat_le 33 x) (is_solid xs) solid in
    let high : 33 ≤ x = let p = parts.0 in grind (arith, nat_tests) in
    ((λ same. omega (arith, same, high, low)), free_solid c xs low parts.1)

free_digits : (c : ℕ) (ds : List ℕ) → c < 33 → AllDigits 10 ds → Free c ds
free_digits c [] low are = tt
free_digits c (d ∷ ds) low (is, are) = let r = digit_from_value d is in ((λ same. omega (arith, same, r, low)), free_digits c ds low are)

name_solid : (text : List ℕ) → IsTrue (list_all is_name_byte text) → IsTrue (is_solid text)
name_solid [] name = refl
name_solid (x ∷ xs) name =
    let parts = and_parts (is_name_byte x) (list_all is_name_byte xs) name in
    let low = (and_parts (nat_le 33 x) (nat_le x 126) parts.0).0 in
    ap (λ b. b && is_solid xs) low ∙ name_solid xs parts.1

free_name : (c : ℕ) (texts : List (List ℕ)) (n : ℕ) → c < 33 → All (λ text. IsTrue (is_name text)) texts → Free c (unwrap_or (slice_get texts n) [])
free_name c texts n low names = by (slice_get texts n) refl
  where
    by : (o : Option (List ℕ)) → slice_get texts n ≡ o → Free c (unwrap_or o [])
    by None e = tt
    by (Some text) e =
        let name : IsTrue (is_name text) = subst (λ t. IsTrue (is_name t)) (get_or_from_slice_get texts n text text e) (names n text (slice_get_within texts n text e)) in
        let parts = and_parts (nat_le 1 (length text)) (nat_le (length text) 64 && list_all is_name_byte text) name in
        free_solid c text low (name_solid text (and_parts (nat_le (length text) 64) (list_all is_name_byte text) parts.1).1)

pub free_word : (book : NameBook) (c : ℕ) (word : Word) → c < 33 → LawfulBook book → IsTrue (is_good book word) → Free c (word_text book word)
free_word book c (Plain text) low lawful good = free_solid c text low good
free_word book c (Number n) low lawful good = free_digits c (decimal n) low (decimal_is_IsNumeral n (good_number n good)).0.1
free_word book c (Class n) low lawful good = free_name c book.classes n low lawful.classes.are_names
free_word book c (Selector n) low lawful good = free_name c book.selectors n low lawful.selectors.are_names
free_word book c (Body n) low lawful good = free_name c book.bodies n low lawful.bodies.are_names
