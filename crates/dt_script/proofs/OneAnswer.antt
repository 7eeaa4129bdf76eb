-- Bytes are one script, or have one fault.
use Rattle.std.proofs.Common.{◌≡◌, ℕ, suc, ◌<◌, arith, Bool, true, false, not, IsTrue, List, [], ◌∷◌, ◌++◌, nat_lt, get_or, take, drop, reverse, Some, refl, sym, ap, subst, ◌∙◌, ⊎_elim}
use Rattle.std.specs.Prelude.{slice_get}
use Rattle.std.specs.List.{join_with_byte}
use Rattle.std.proofs.lemmas.Bool.{false≢true, cases_Bool, ltb-true}
use Rattle.std.proofs.lemmas.Bool.Decides.{nat_tests}
use Rattle.std.proofs.lemmas.List.{append_assoc, reverse-append, take-append-drop, take-take, get_or-take, length-take}
use Rattle.std.proofs.Math.Seq.{drop-cons}
use Rattle.std.proofs.lemmas.Option.{slice_get_within, slice_get-get_or}
use Rattle.dt_script.specs.Keyword.{text_of_keyword}
use Rattle.dt_script.specs.Laws.{OneMeaning, StaysLawful}
use Rattle.dt_script.specs.LawfulBook.{LawfulBook}
use Rattle.dt_script.specs.Line.{LineOf}
use Rattle.dt_script.specs.Lines.{is_silent}
use Rattle.dt_script.specs.Named.{ReadHasLawfulBook}
use Rattle.dt_script.specs.NameBook.{NameBook, empty_book, is_within_limits}
use Rattle.dt_script.specs.OneAnswer.{OneScript, OneFault, ScriptsHaveNoFault}
use Rattle.dt_script.specs.Place.{may_stand, has_ended}
use Rattle.dt_script.specs.Script.{Script, script_of}
use Rattle.dt_script.specs.ScriptOf.{WereRead, IsMalformed, IsFull, HasHeader, IsFirstFaultAt, IsScriptOf, HasNoEnd, IsFaultOf}
use Rattle.dt_script.specs.Word.{Word, Plain, AreTexts}
use Rattle.dt_script.specs.declared.keyword.Keyword.{Keyword}
use Rattle.dt_script.specs.declared.keyword.Keyword.TheVariants as keyword
use Rattle.dt_script.specs.declared.line.Line.{Line}
use Rattle.dt_script.specs.declared.script_fault.ScriptFault.TheVariants.{ReadFault, TooLong, NoHeader, Malformed, NamesFull, NoEnd, NoMemory}
use Rattle.dt_script.proofs.Malformed.{first_of}
use Rattle.dt_script.proofs.SameKinds.{first}

inside : {X : Type 0} {a b : X} → Some a ≡ Some b → a ≡ b
inside same = cc

rejected : (b : Bool) → IsTrue b → IsTrue (not b) → ⊥
rejected true holds fails = false≢true fails
rejected false holds fails = false≢true holds

-- ---- a line means something

keyword_speaks : (k : Keyword) → is_silent (text_of_keyword k) ≡ false
keyword_speaks keyword.Dispatch = refl
keyword_speaks k = refl

joined_speaks : (text : List ℕ) (texts : List (List ℕ)) → is_silent text ≡ false → is_silent (join_with_byte 32 (text ∷ texts)) ≡ false
joined_speaks [] texts speaks = absurd (false≢true (sym speaks))
joined_speaks (byte ∷ bytes) [] speaks = speaks
joined_speaks (byte ∷ bytes) (text ∷ texts) speaks = speaks

texts_speak : (book : NameBook) (k : Keyword) (words : List Word) (texts : List (List ℕ)) → AreTexts book (Plain (text_of_keyword k) ∷ words) texts
    → is_silent (join_with_byte 32 texts) ≡ false
texts_speak book k words [] are = absurd are
texts_speak book k words (text ∷ texts) are =
    joined_speaks text texts (ap is_silent (sym (same_text are.0)) ∙ keyword_speaks k) where
      same_text : Some (text_of_keyword k) ≡ Some text → text_of_keyword k ≡ text
      same_text same = cc

pub line_speaks : (bytes : List ℕ) (before after : NameBook) (line : Line) → LineOf bytes before line after → is_silent bytes ≡ false
line_speaks bytes before after line is =
    ap is_silent is.spelled
    ∙ texts_speak after (first_of line) _ is.texts (subst (λ words. AreTexts after words is.texts) (first line) is.written)

-- ---- lines give one reading

module _ (one_meaning : OneMeaning) (stays_lawful : StaysLawful) (empty_lawful : LawfulBook empty_book) where
  lawful : (readers : ℕ) (texts : List (List ℕ)) (book : NameBook) (past : List Line) → WereRead readers texts book past → LawfulBook book
  lawful readers [] book past were = subst LawfulBook (sym were.0) empty_lawful
  lawful readers (text ∷ texts) book past were = ⊎_elim
      (λ silent. lawful readers texts book past silent.1)
      (λ line. stays_lawful text line.0 book line.2 (lawful readers texts line.0 line.1 line.3) line.4.is_line)
      were

  -- a text that means nothing is no line
  silent_is_none : {A : Type 0} (text : List ℕ) (before after : NameBook) (line : Line) → IsTrue (is_silent text) → LineOf text before line after → A
  silent_is_none text before after line silent is = absurd (false≢true (sym (line_speaks text before after line is) ∙ silent))

  one_reading : (readers : ℕ) (texts : List (List ℕ)) (a b : NameBook) (past other : List Line) → WereRead readers texts a past → WereRead readers texts b other
      → (a ≡ b) × (past ≡ other)
  one_reading readers [] a b past other first second = (first.0 ∙ sym second.0, first.1 ∙ sym second.1)
  one_reading readers (text ∷ texts) a b past other first second = ⊎_elim
      (λ silent. ⊎_elim
      (λ also. one_reading readers texts a b past other silent.1 also.1)
      (λ line. silent_is_none text line.0 b line.2 silent.0 line.4.is_line)
      second)
      (λ line. ⊎_elim
      (λ silent. silent_is_none text line.0 a line.2 silent.0 line.4.is_line)
      (λ also.
      let same = one_reading readers texts line.0 also.0 line.1 also.1 line.3 also.3 in
      let is : LineOf text line.0 also.2 b = subst (λ book. LineOf text book also.2 b) (sym same.0) also.4.is_line in
      let meaning = one_meaning text line.0 a b line.2 also.2 (lawful readers texts line.0 line.1 line.3) line.4.is_line is in
      (meaning.1, line.6 ∙ ap (λ l. l ∷ line.1) meaning.0 ∙ ap (λ ls. also.2 ∷ ls) same.1 ∙ sym also.6))
      second)
      first

  -- ---- a line that was read has no fault

  abbrev Fault : Type 1
  Fault = ℕ → NameBook → List Line → List ℕ → Type 0

  abbrev malformed : Fault
  malformed readers book past text = IsMalformed readers text book past

  abbrev full : Fault
  full readers book past text = IsFull readers text book past

  -- no line that was read after these has the fault
  abbrev Excludes : Fault → Type 0
  Excludes fault = (readers : ℕ) (text : List ℕ) (texts : List (List ℕ)) (book after : NameBook) (past later : List Line)
      → WereRead readers texts book past → WereRead readers (text ∷ texts) after later → fault readers book past text → ⊥

  not_malformed : Excludes malformed
  not_malformed readers text texts book after past later before were fault = ⊎_elim
      (λ silent. absurd (rejected (is_silent text) silent.0 fault.means))
      (λ line.
      let same = one_reading readers texts book line.0 past line.1 before line.3 in
      fault.none line.2 after (subst (λ names. LineOf text names line.2 after) (sym same.0) line.4.is_line)
      (subst (λ lines. IsTrue (may_stand readers lines line.2)) (sym same.1) line.4.stands))
      were

  not_full : Excludes full
  not_full readers text texts book after past later before were fault = ⊎_elim
      (λ silent. silent_is_none text book fault.after fault.line silent.0 fault.is_line)
      (λ line.
      let same = one_reading readers texts book line.0 past line.1 before line.3 in
      let is : LineOf text book line.2 after = subst (λ names. LineOf text names line.2 after) (sym same.0) line.4.is_line in
      let meaning = one_meaning text book fault.after after fault.line line.2 (lawful readers texts book past before) fault.is_line is in
      rejected (is_within_limits after) line.4.fits (subst (λ names. IsTrue (not (is_within_limits names))) meaning.1 fault.full))
      were

  -- ---- what was read up to a line

  record ReadBefore (readers : ℕ) (texts : List (List ℕ)) : Type 0 where
    book : NameBook
    past : List Line
    were : WereRead readers texts book past

  earlier : (readers : ℕ) (later texts : List (List ℕ)) (book : NameBook) (past : List Line) → WereRead readers (later ++ texts) book past → ReadBefore readers texts
  earlier readers [] texts book past were = record { book = book; past = past; were = were }
  earlier readers (text ∷ later) texts book past were = ⊎_elim
      (λ silent. earlier readers later texts book past silent.1)
      (λ line. earlier readers later texts line.0 line.1 line.3)
      were

  split_at : {X : Type 0} (xs : List X) (i : ℕ) (x : X) → slice_get xs i ≡ Some x → xs ≡ take i xs ++ x ∷ drop (suc i) xs
  split_at xs i x found =
      let within = slice_get_within xs i x found in
      let here : get_or xs i x ≡ x = inside (sym (slice_get-get_or xs i x within) ∙ found) in
      sym (take-append-drop i xs) ∙ ap (λ rest. take i xs ++ rest) (drop-cons xs i x within ∙ ap (λ one. one ∷ drop (suc i) xs) here)

  -- the last of the lines read so far comes first
  turned : {X : Type 0} (before after : List X) (x : X) → reverse (before ++ x ∷ after) ≡ reverse after ++ x ∷ reverse before
  turned before after x = reverse-append before (x ∷ after) ∙ ap (λ l. l ++ reverse before) (reverse-append (x ∷ []) after)
      ∙ append_assoc (reverse after) (x ∷ []) (reverse before)

  -- where all of these lines were read, none has the fault
  none_has : (fault : Fault) → Excludes fault → (readers : ℕ) (texts : List (List ℕ)) (place : ℕ) (text : List ℕ)
      → slice_get texts place ≡ Some text
      → ReadBefore readers (reverse texts)
      → (book : NameBook) (past : List Line) → WereRead readers (reverse (take place texts)) book past → fault readers book past text → ⊥
  none_has fault excludes readers texts place text found all book past before holds =
      let whole = ap reverse (split_at texts place text found) ∙ turned (take place texts) (drop (suc place) texts) text in
      let read = subst (λ lines. WereRead readers lines all.book all.past) whole all.were in
      let here = earlier readers (reverse (drop (suc place) texts)) (text ∷ reverse (take place texts)) all.book all.past read in
      excludes readers text (reverse (take place texts)) book here.book past here.past before here.were holds

  -- two texts after the header are the same
  same_texts : (bytes : List ℕ) (a b : List (List ℕ)) → HasHeader bytes a → HasHeader bytes b → a ≡ b
  same_texts bytes a b first second = ap (λ lines. drop 1 lines) (sym first ∙ second)

  -- a fault at a line isn't there where all lines were read
  all_exclude : (fault : Fault) → Excludes fault → (readers : ℕ) (bytes : List ℕ) (number : ℕ) (texts : List (List ℕ)) → HasHeader bytes texts
      → ReadBefore readers (reverse texts) → IsFirstFaultAt (λ book past text. fault readers book past text) readers bytes number → ⊥
  all_exclude fault excludes readers bytes number texts header all (other, place, text, book, past, first, is, found, were, holds) =
      let same : other ≡ texts = same_texts bytes other texts first header in
      none_has fault excludes readers other place text found (subst (λ lines. ReadBefore readers (reverse lines)) (sym same) all) book past were holds

  -- nor where a later line has one
  later_excludes : (fault : Fault) → Excludes fault → (readers : ℕ) (texts : List (List ℕ)) (i j : ℕ) (text : List ℕ) → i < j
      → slice_get texts i ≡ Some text → ReadBefore readers (reverse (take j texts))
      → (book : NameBook) (past : List Line) → WereRead readers (reverse (take i texts)) book past → fault readers book past text → ⊥
  later_excludes fault excludes readers texts i j text less found all book past before holds =
      let within = slice_get_within texts i text found in
      let kept : slice_get (take j texts) i ≡ Some text =
      slice_get-get_or (take j texts) i text (omega (arith, length-take j texts, within, less))
      ∙ ap Some (get_or-take j texts i text less) ∙ sym (slice_get-get_or texts i text within) ∙ found in
      none_has fault excludes readers (take j texts) i text kept all book past
      (subst (λ lines. WereRead readers (reverse lines) book past) (sym (take-take i j texts (omega (arith, less)))) before) holds

  -- two faults are at one line
  same_place : (fault other : Fault) → Excludes fault → Excludes other → (readers : ℕ) (texts : List (List ℕ)) (i j : ℕ) (text text' : List ℕ) (book book' : NameBook) (past past' : List Line)
      → slice_get texts i ≡ Some text → slice_get texts j ≡ Some text'
      → WereRead readers (reverse (take i texts)) book past → WereRead readers (reverse (take j texts)) book' past'
      → fault readers book past text → other readers book' past' text' → i ≡ j
  same_place fault other excludes excludes' readers texts i j text text' book book' past past' found found' were were' holds holds' = ⊎_elim
      (λ less. absurd (later_excludes fault excludes readers texts i j text (ltb-true i j less) found (record { book = book'; past = past'; were = were' }) book past were holds))
      (λ not_less. ⊎_elim
      (λ more. absurd (later_excludes other excludes' readers texts j i text' (ltb-true j i more) found' (record { book = book; past = past; were = were }) book' past' were' holds'))
      (λ not_more. grind (arith, nat_tests))
      (cases_Bool (nat_lt j i)))
      (cases_Bool (nat_lt i j))

  same_number : (fault other : Fault) → Excludes fault → Excludes other → (readers : ℕ) (bytes : List ℕ) (m n : ℕ)
      → IsFirstFaultAt (λ book past text. fault readers book past text) readers bytes m
      → IsFirstFaultAt (λ book past text. other readers book past text) readers bytes n → m ≡ n
  same_number fault other excludes excludes' readers bytes m n (texts, i, text, book, past, header, is, found, were, holds) (texts', j, text', book', past', header', is', found', were', holds') =
      let same : texts' ≡ texts = same_texts bytes texts' texts header' header in
      let at : i ≡ j = same_place fault other excludes excludes' readers texts i j text text' book book' past past' found
      (subst (λ lines. slice_get lines j ≡ Some text') same found') were
      (subst (λ lines. WereRead readers (reverse (take j lines)) book' past') same were') holds holds' in
      omega (arith, is, is', at)

  -- no line is both malformed and one whose names are too many
  one_kind : (readers : ℕ) (bytes : List ℕ) (m n : ℕ) → IsFaultOf readers bytes (Malformed m) → IsFaultOf readers bytes (NamesFull n) → ⊥
  one_kind readers bytes m n (texts, i, text, book, past, header, is, found, were, holds) (texts', j, text', book', past', header', is', found', were', holds') =
      let same : texts' ≡ texts = same_texts bytes texts' texts header' header in
      let found'' : slice_get texts j ≡ Some text' = subst (λ lines. slice_get lines j ≡ Some text') same found' in
      let were'' : WereRead readers (reverse (take j texts)) book' past' = subst (λ lines. WereRead readers (reverse (take j lines)) book' past') same were' in
      let at : i ≡ j = same_place malformed full not_malformed not_full readers texts i j text text' book book' past past' found found'' were were'' holds holds' in
      let one : text' ≡ text = inside (sym found'' ∙ ap (slice_get texts) (sym at) ∙ found) in
      let reading = one_reading readers (reverse (take j texts)) book' book past' past were'' (subst (λ k. WereRead readers (reverse (take k texts)) book past) at were) in
      holds.none holds'.line holds'.after
      (subst (λ b. LineOf b book holds'.line holds'.after) one (subst (λ names. LineOf text' names holds'.line holds'.after) reading.0 holds'.is_line))
      (subst (λ lines. IsTrue (may_stand readers lines holds'.line)) reading.1 holds'.stands)

  -- ---- the laws

  pub one_script : OneScript
  one_script readers bytes a b first second =
      let same = same_texts bytes first.texts second.texts first.header second.header in
      let reading = one_reading readers (reverse second.texts) first.book second.book first.past second.past
      (subst (λ texts. WereRead readers (reverse texts) first.book first.past) same first.were_read) second.were_read in
      first.built ∙ ap (λ names. script_of names (reverse first.past)) reading.0 ∙ ap (λ lines. script_of second.book (reverse lines)) reading.1 ∙ sym second.built

  pub read_has_lawful_book : ReadHasLawfulBook
  read_has_lawful_book readers bytes script is =
      subst (λ (s : Script). LawfulBook s.names) (sym is.built) (lawful readers (reverse is.texts) is.book is.past is.were_read)

  ended_once : (readers : ℕ) (bytes : List ℕ) (script : Script) → IsScriptOf readers bytes script → HasNoEnd readers bytes → ⊥
  ended_once readers bytes script is no_end =
      let same = same_texts bytes is.texts no_end.texts is.header no_end.header in
      let reading = one_reading readers (reverse no_end.texts) is.book no_end.book is.past no_end.past
      (subst (λ texts. WereRead readers (reverse texts) is.book is.past) same is.were_read) no_end.were_read in
      rejected (has_ended is.past) is.ended (subst (λ lines. IsTrue (not (has_ended lines))) (sym reading.1) no_end.goes_on)

  pub scripts_have_no_fault : ScriptsHaveNoFault
  scripts_have_no_fault readers bytes script ReadFault is fault = fault
  scripts_have_no_fault readers bytes script TooLong is fault = fault
  scripts_have_no_fault readers bytes script NoMemory is fault = fault
  scripts_have_no_fault readers bytes script NoHeader is fault = fault is.texts is.header
  scripts_have_no_fault readers bytes script NoEnd is fault = ended_once readers bytes script is fault
  scripts_have_no_fault readers bytes script (Malformed number) is fault =
      all_exclude malformed not_malformed readers bytes number is.texts is.header (record { book = is.book; past = is.past; were = is.were_read }) fault
  scripts_have_no_fault readers bytes script (NamesFull number) is fault =
      all_exclude full not_full readers bytes number is.texts is.header (record { book = is.book; past = is.past; were = is.were_read }) fault

  -- what is told of a line isn't told where all lines were read
  not_ended : (fault : Fault) → Excludes fault → (readers : ℕ) (bytes : List ℕ) (number : ℕ) → HasNoEnd readers bytes
      → IsFirstFaultAt (λ book past text. fault readers book past text) readers bytes number → ⊥
  not_ended fault excludes readers bytes number no_end holds =
      all_exclude fault excludes readers bytes number no_end.texts no_end.header (record { book = no_end.book; past = no_end.past; were = no_end.were_read }) holds

  pub one_fault : OneFault
  one_fault readers bytes NoHeader NoHeader fault other = refl
  one_fault readers bytes NoHeader (Malformed n) fault other = absurd (fault other.0 other.5)
  one_fault readers bytes NoHeader (NamesFull n) fault other = absurd (fault other.0 other.5)
  one_fault readers bytes NoHeader NoEnd fault other = absurd (fault other.texts other.header)
  one_fault readers bytes (Malformed m) NoHeader fault other = absurd (other fault.0 fault.5)
  one_fault readers bytes (Malformed m) (Malformed n) fault other = ap Malformed (same_number malformed malformed not_malformed not_malformed readers bytes m n fault other)
  one_fault readers bytes (Malformed m) (NamesFull n) fault other = absurd (one_kind readers bytes m n fault other)
  one_fault readers bytes (Malformed m) NoEnd fault other = absurd (not_ended malformed not_malformed readers bytes m other fault)
  one_fault readers bytes (NamesFull m) NoHeader fault other = absurd (other fault.0 fault.5)
  one_fault readers bytes (NamesFull m) (Malformed n) fault other = absurd (one_kind readers bytes n m other fault)
  one_fault readers bytes (NamesFull m) (NamesFull n) fault other = ap NamesFull (same_number full full not_full not_full readers bytes m n fault other)
  one_fault readers bytes (NamesFull m) NoEnd fault other = absurd (not_ended full not_full readers bytes m other fault)
  one_fault readers bytes NoEnd NoHeader fault other = absurd (other fault.texts fault.header)
  one_fault readers bytes NoEnd (Malformed n) fault other = absurd (not_ended malformed not_malformed readers bytes n fault other)
  one_fault readers bytes NoEnd (NamesFull n) fault other = absurd (not_ended full not_full readers bytes n fault other)
  one_fault readers bytes NoEnd NoEnd fault other = refl
  one_fault readers bytes ReadFault b fault other = absurd fault
  one_fault readers bytes TooLong b fault other = absurd fault
  one_fault readers bytes NoMemory b fault other = absurd fault
  one_fault readers bytes a ReadFault fault other = absurd other
  one_fault readers bytes a TooLong fault other = absurd other
  one_fault readers bytes a NoMemory fault other = absurd other
