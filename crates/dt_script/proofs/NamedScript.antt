-- The names of a script that was read are those of all its lines.
use Rattle.std.proofs.Common.{◌≡◌, ℕ, ◌<◌, ◌≤◌, ◌-◌, arith, Bool, true, false, cond, IsTrue, List, [], ◌∷◌, length, reverse, Option, Some, None, refl, ap, subst, sym, ⊎_elim, All}
use Rattle.std.specs.Prelude.{IfSome, is_some, slice_get}
use Rattle.std.specs.List.{list_all, onto_first, slice_split}
use Rattle.std.proofs.lemmas.List.{length-reverse, get_or-reverse}
use Rattle.std.proofs.lemmas.Bool.{and_from, and_parts}
use Rattle.std.proofs.lemmas.Option.{slice_get_within, slice_get-get_or}
use Rattle.std.proofs.lemmas.List.Elements.{All-nil, All-cons, All-head, All-tail, All-weaker, All-map}
use Rattle.dt_definitions.specs.declared.edit.Edit.{Edit}
use Rattle.dt_script.specs.NameBook.{NameBook}
use Rattle.dt_script.specs.Word.{Word, Plain, Number, Class, Selector, Body, AreTexts, with_word, book_after}
use Rattle.dt_script.specs.Line.{words_of}
use Rattle.dt_script.specs.Named.{has_text, is_line_named, is_edit_named, HasNames}
use Rattle.dt_script.specs.Script.{Script, Phase as PhaseOf, edit_of, with_edit, batches_from, is_phase, phase_of}
use Rattle.dt_script.specs.ScriptOf.{WereRead, IsScriptOf}
use Rattle.dt_script.specs.declared.line.Line.{Line}
use Rattle.dt_script.specs.declared.line.Line.TheVariants.{Header, AddClass, DropClass, Link, Unlink, AddSelector, DropSelector, Define, Undefine, Begin, Commit, Phase, Caller, Call, Pin, Unpin, End}
use Rattle.dt_script.proofs.NumbersStay.{grows}

-- ---- names stay where a book grows

record Grew (old new : NameBook) : Type 0 where
  classes : length old.classes ≤ length new.classes
  selectors : length old.selectors ≤ length new.selectors
  bodies : length old.bodies ≤ length new.bodies

same_book : (book : NameBook) → Grew book book
same_book book = record { classes = omega arith; selectors = omega arith; bodies = omega arith }

grew_by_word : (book : NameBook) (word : Word) (text : List ℕ) → Grew book (with_word book word text)
grew_by_word book (Plain plain) text = same_book book
grew_by_word book (Number number) text = same_book book
grew_by_word book (Class number) text = record { classes = grows text book.classes; selectors = omega arith; bodies = omega arith }
grew_by_word book (Selector number) text = record { classes = omega arith; selectors = grows text book.selectors; bodies = omega arith }
grew_by_word book (Body number) text = record { classes = omega arith; selectors = omega arith; bodies = grows text book.bodies }

grew_further : (a b c : NameBook) → Grew a b → Grew b c → Grew a c
grew_further a b c first then = record {
  classes = omega (arith, first.classes, then.classes);
  selectors = omega (arith, first.selectors, then.selectors);
  bodies = omega (arith, first.bodies, then.bodies);
}

grew_by_words : (book : NameBook) (words : List Word) (texts : List (List ℕ)) → Grew book (book_after book words texts)
grew_by_words book [] texts = same_book book
grew_by_words book (word ∷ words) [] = same_book book
grew_by_words book (word ∷ words) (text ∷ texts) =
    grew_further book (with_word book word text) _ (grew_by_word book word text) (grew_by_words (with_word book word text) words texts)

there_still : (old new : List (List ℕ)) (number : ℕ) → length old ≤ length new → IsTrue (is_some (slice_get old number)) → IsTrue (is_some (slice_get new number))
there_still old new number longer there =
    elim (slice_get old number) as (λ o. slice_get old number ≡ o → IsTrue (is_some o) → IsTrue (is_some (slice_get new number))) [
      | None ↦ λ _ none. absurd (cc)
      | (Some text) ↦ λ found _. ap is_some (slice_get-get_or new number [] (omega (arith, longer, slice_get_within old number text found)))
    ] refl there

text_stays : (old new : NameBook) (word : Word) → Grew old new → IsTrue (has_text old word) → IsTrue (has_text new word)
text_stays old new (Plain text) grew has = refl
text_stays old new (Number number) grew has = refl
text_stays old new (Class number) grew has = there_still old.classes new.classes number grew.classes has
text_stays old new (Selector number) grew has = there_still old.selectors new.selectors number grew.selectors has
text_stays old new (Body number) grew has = there_still old.bodies new.bodies number grew.bodies has

-- ---- lines that were read are named

pub All-reverse : {X : Type 0} (P : X → Type 0) (xs : List X) → All P xs → All P (reverse xs)
All-reverse P xs all i d within =
    let inside : i < length xs = omega (arith, within, length-reverse xs) in
    subst P (sym (get_or-reverse xs i d inside)) (all (length xs - 1 - i) d (omega (arith, inside)))

abbrev pub NamedLine : NameBook → Line → Type 0
NamedLine book line = IsTrue (is_line_named book line)

words_stay : (old new : NameBook) (words : List Word) → Grew old new → IsTrue (list_all (has_text old) words) → IsTrue (list_all (has_text new) words)
words_stay old new [] grew named = refl
words_stay old new (word ∷ words) grew named =
    let parts = and_parts (has_text old word) (list_all (has_text old) words) named in
    and_from _ _ (text_stays old new word grew parts.0) (words_stay old new words grew parts.1)

texts_name : (book : NameBook) (words : List Word) (texts : List (List ℕ)) → AreTexts book words texts → IsTrue (list_all (has_text book) words)
texts_name book [] texts are = refl
texts_name book (word ∷ words) [] are = absurd are
texts_name book (word ∷ words) (text ∷ texts) are = and_from _ _ (ap is_some are.0) (texts_name book words texts are.1)

pub read_named : (readers : ℕ) (texts : List (List ℕ)) (book : NameBook) (past : List Line) → WereRead readers texts book past → All (NamedLine book) past
read_named readers [] book past were = subst (All (NamedLine book)) (sym were.1) (All-cons (NamedLine book) Header [] refl (All-nil (NamedLine book)))
read_named readers (text ∷ texts) book past were = ⊎_elim
    (λ silent. read_named readers texts book past silent.1)
    (λ line.
    let before = line.0 in
    let earlier = line.1 in
    let last = line.2 in
    let is = line.4 in
    let grew : Grew before book = subst (Grew before) (sym is.is_line.numbered) (grew_by_words before (words_of last) is.is_line.texts) in
    subst (All (NamedLine book)) (sym line.6)
    (All-cons (NamedLine book) last earlier (texts_name book (words_of last) is.is_line.texts is.is_line.written)
    (All-weaker (NamedLine before) (NamedLine book) (λ one. words_stay before book (words_of one) grew) earlier
    (read_named readers texts before earlier line.3))))
    were

-- ---- and so are the edits of their batches

module _ (book : NameBook) where
  abbrev NamedEdit : Edit → Type 0
  NamedEdit edit = IsTrue (is_edit_named book edit)

  edit_named : (line : Line) → NamedLine book line → IfSome (edit_of line) NamedEdit
  edit_named Header named = tt
  edit_named (AddClass class parents) named = named
  edit_named (DropClass class) named = named
  edit_named (Link class parent) named = named
  edit_named (Unlink class parent) named = named
  edit_named (AddSelector selector arity) named = named
  edit_named (DropSelector selector) named = named
  edit_named (Define selector classes body) named = named
  edit_named (Undefine selector classes) named = named
  edit_named Begin named = tt
  edit_named Commit named = tt
  edit_named Phase named = tt
  edit_named (Caller caller) named = tt
  edit_named (Call query) named = tt
  edit_named Pin named = tt
  edit_named Unpin named = tt
  edit_named End named = tt

  onto_first_all : {X : Type 0} (P : X → Type 0) (x : X) (lists : List (List X)) → P x → All (All P) lists → All (All P) (onto_first x lists)
  onto_first_all P x [] holds all = All-cons (All P) (x ∷ []) [] (All-cons P x [] holds (All-nil P)) (All-nil (All P))
  onto_first_all P x (first ∷ lists) holds all =
      All-cons (All P) (x ∷ first) lists (All-cons P x first holds (All-head (All P) first lists all)) (All-tail (All P) first lists all)

  with_edit_named : (inside : Bool) (edit : Option Edit) (batches : List (List Edit)) → IfSome edit NamedEdit → All (All NamedEdit) batches
      → All (All NamedEdit) (with_edit inside edit batches)
  with_edit_named inside None batches named all = all
  with_edit_named true (Some edit) batches named all = onto_first_all NamedEdit edit batches named all
  with_edit_named false (Some edit) batches named all =
      All-cons (All NamedEdit) (edit ∷ []) batches (All-cons NamedEdit edit [] named (All-nil NamedEdit)) all

  batches_named : (inside : Bool) (lines : List Line) → All (NamedLine book) lines → All (All NamedEdit) (batches_from inside lines)
  batches_named inside [] all = All-nil (All NamedEdit)
  batches_named inside (line ∷ lines) all =
      let rest = λ (begun : Bool). batches_named begun lines (All-tail (NamedLine book) line lines all) in
      let one = with_edit_named inside (edit_of line) (batches_from inside lines) (edit_named line (All-head (NamedLine book) line lines all)) (rest inside) in
      elim line as (λ l. All (All NamedEdit) (with_edit inside (edit_of l) (batches_from inside lines)) → All (All NamedEdit) (batches_from inside (l ∷ lines))) [
        | Begin ↦ λ _. rest true
        | Commit ↦ λ _. All-cons (All NamedEdit) [] (batches_from false lines) (All-nil NamedEdit) (rest false)
        | Header ↦ λ h. h
        | (AddClass class parents) ↦ λ h. h
        | (DropClass class) ↦ λ h. h
        | (Link class parent) ↦ λ h. h
        | (Unlink class parent) ↦ λ h. h
        | (AddSelector selector arity) ↦ λ h. h
        | (DropSelector selector) ↦ λ h. h
        | (Define selector classes body) ↦ λ h. h
        | (Undefine selector classes) ↦ λ h. h
        | Phase ↦ λ h. h
        | (Caller caller) ↦ λ h. h
        | (Call query) ↦ λ h. h
        | Pin ↦ λ h. h
        | Unpin ↦ λ h. h
        | End ↦ λ h. h
      ] one

  pub split_named : (lines : List Line) → All (NamedLine book) lines → All (All (NamedLine book)) (slice_split is_phase lines)
  split_named [] all = All-cons (All (NamedLine book)) [] [] (All-nil (NamedLine book)) (All-nil (All (NamedLine book)))
  split_named (line ∷ lines) all =
      let rest = split_named lines (All-tail (NamedLine book) line lines all) in
      elim (is_phase line) as (λ b. All (All (NamedLine book)) (cond b ([] ∷ slice_split is_phase lines) (onto_first line (slice_split is_phase lines)))) [
        | true ↦ All-cons (All (NamedLine book)) [] (slice_split is_phase lines) (All-nil (NamedLine book)) rest
        | false ↦ onto_first_all (NamedLine book) line (slice_split is_phase lines) (All-head (NamedLine book) line lines all) rest
      ]

pub script_is_named : (readers : ℕ) (bytes : List ℕ) (script : Script) → IsScriptOf readers bytes script → HasNames script
script_is_named readers bytes script is =
    let named = All-reverse (NamedLine is.book) is.past (read_named readers (reverse is.texts) is.book is.past is.were_read) in
    let lines = reverse is.past in
    subst HasNames (sym is.built)
    (All-map (λ (phase : PhaseOf). All (All (NamedEdit is.book)) phase.edits) phase_of (slice_split is_phase lines)
    (All-weaker (All (NamedLine is.book)) (λ own. All (All (NamedEdit is.book)) (batches_from false own)) (λ own. batches_named is.book false own)
    (slice_split is_phase lines) (split_named is.book lines named)))
