-- A log is determined by its text.
use Rattle.std.proofs.Common.{◌≡◌, ℕ, ◌+◌, ◌<◌, Bool, true, false, ◌&&◌, IsTrue, List, [], ◌∷◌, ◌++◌, length, drop, get_or, map, flat_map, Some, refl, sym, ap, subst, ◌∙◌, arith, append_assoc, lit<}
use Rattle.std.specs.List.{AllZip, join_with_byte, list_all}
use Rattle.std.specs.Str.Parse.{digits_value}
use Rattle.std.proofs.lemmas.Bool.{and_parts}
use Rattle.std.proofs.lemmas.List.{map-append}
use Rattle.std.proofs.lemmas.List.Folds.{list_all-append}
use Rattle.dt_definitions.specs.declared.why.Why.{Why}
use Rattle.dt_definitions.specs.declared.why.Why.TheVariants as why
use Rattle.dt_scratch.specs.declared.reply.Answer.TheVariants.{Method}
use Rattle.dt_scratch.specs.declared.reply.Reply.{Reply}
use Rattle.dt_scratch.specs.declared.reply.Reply.TheVariants.{Answered}
use Rattle.dt_script.specs.NameBook.{NameBook}
use Rattle.dt_script.specs.LawfulBook.{LawfulBook}
use Rattle.dt_script.specs.Named.{has_text}
use Rattle.dt_script.specs.Word.{Word}
use Rattle.dt_run.specs.Log.{Log, PhaseLog, PartLog}
use Rattle.dt_run.specs.Text.{is_named, lines_of, lines_of_phases, lines_of_phase, lines_of_part, words_of_why, words_of_edit_line, words_of_reply, words_of_call_line, words_of_phase_line, words_of_done_line}
use Rattle.dt_run.specs.Shape.{IsSamePart, IsSamePhase}
use Rattle.dt_run.specs.TextLaws.{is_word_in_range, is_in_range, DeterminedByText}
use Rattle.dt_run.specs.Putting.{line_text, log_text}
use Rattle.dt_run.specs.declared.log.CallLine.{CallLine}
use Rattle.dt_run.specs.declared.log.CallLine.TheVariants.{Called}
use Rattle.dt_run.specs.declared.log.EditLine.{EditLine}
use Rattle.dt_run.specs.declared.log.EditLine.TheVariants.{Refused}
use Rattle.dt_run.proofs.TextCut.{AllFree, free_join, same_texts, same_joined, ended}
use Rattle.dt_run.proofs.LineDecode.{texts_of, is_solid_word, is_good, AreGood, edit_from, edit_back, call_from, call_back, phase_back, last_back, free_word}
use Rattle.dt_run.proofs.NamedText.{named_text, log_lines}

-- ---- each line has a word, and no plain word has a byte below 33

abbrev is_solid_line : List Word → Bool
is_solid_line [] = false
is_solid_line (word ∷ words) = list_all is_solid_word (word ∷ words)

solid_why : (w : Why) → list_all is_solid_word (words_of_why w) ≡ true
solid_why why.ClassExists = refl
solid_why w = refl

solid_edit : (line : EditLine) → is_solid_line (words_of_edit_line line) ≡ true
solid_edit (Refused at w) = solid_why w
solid_edit line = refl

solid_reply : (reply : Reply) → list_all is_solid_word (words_of_reply reply) ≡ true
solid_reply (Answered (Method body)) = refl
solid_reply (Answered answer) = refl
solid_reply reply = refl

solid_call : (caller : ℕ) (line : CallLine) → is_solid_line (words_of_call_line caller line) ≡ true
solid_call caller (Called stamped) = solid_reply stamped.reply
solid_call caller line = refl

all_map : {X Y : Type 0} (p : Y → Bool) (f : X → Y) (xs : List X) → ((x : X) → p (f x) ≡ true) → list_all p (map f xs) ≡ true
all_map p f [] each = refl
all_map p f (x ∷ xs) each = ap (λ b. b && list_all p (map f xs)) (each x) ∙ all_map p f xs each

all_append : {X : Type 0} (p : X → Bool) (xs ys : List X) → list_all p xs ≡ true → list_all p ys ≡ true → list_all p (xs ++ ys) ≡ true
all_append p xs ys first second = list_all-append p xs ys ∙ ap (λ b. b && list_all p ys) first ∙ second

solid_parts : (parts : List PartLog) → list_all is_solid_line (flat_map lines_of_part parts) ≡ true
solid_parts [] = refl
solid_parts (part ∷ parts) =
    all_append is_solid_line (lines_of_part part) (flat_map lines_of_part parts) (all_map is_solid_line (words_of_call_line part.caller) part.lines (solid_call part.caller)) (solid_parts parts)

solid_phases : (number : ℕ) (phases : List PhaseLog) → list_all is_solid_line (lines_of_phases number phases) ≡ true
solid_phases number [] = refl
solid_phases number (phase ∷ phases) = all_append is_solid_line (lines_of_phase number phase) (lines_of_phases (number + 1) phases)
    (all_append is_solid_line (map words_of_edit_line phase.edits) (flat_map lines_of_part phase.callers) (all_map is_solid_line words_of_edit_line phase.edits solid_edit) (solid_parts phase.callers))
    (solid_phases (number + 1) phases)

solid_log : (log : Log) → list_all is_solid_line (lines_of log) ≡ true
solid_log log = all_append is_solid_line (lines_of_phases 1 log.phases) (words_of_done_line log.last ∷ []) (solid_phases 1 log.phases) refl

-- ---- a line that is good

both : (a b : Bool) → a ≡ true → b ≡ true → (a && b) ≡ true
both a b first second = ap (λ x. x && b) first ∙ second

good_words : (book : NameBook) (words : List Word) → IsTrue (list_all (has_text book) words) → IsTrue (list_all is_word_in_range words) → IsTrue (list_all is_solid_word words) → AreGood book words
good_words book [] named fits solid = refl
good_words book (word ∷ words) named fits solid =
    let n = and_parts (has_text book word) (list_all (has_text book) words) named in
    let f = and_parts (is_word_in_range word) (list_all is_word_in_range words) fits in
    let s = and_parts (is_solid_word word) (list_all is_solid_word words) solid in
    both (is_good book word) (list_all (is_good book) words) (both (has_text book word) (is_word_in_range word && is_solid_word word) n.0 (both (is_word_in_range word) (is_solid_word word) f.0 s.0)) (good_words book words n.1 f.1 s.1)

-- whether the line has a word, and each is good
abbrev is_good_line : NameBook → List Word → Bool
is_good_line book [] = false
is_good_line book (word ∷ words) = list_all (is_good book) (word ∷ words)

good_lines : (book : NameBook) (lines : List (List Word)) → IsTrue (list_all (list_all (has_text book)) lines) → IsTrue (list_all (list_all is_word_in_range) lines) → IsTrue (list_all is_solid_line lines) → IsTrue (list_all (is_good_line book) lines)
good_lines book [] named fits solid = refl
good_lines book ([] ∷ lines) named fits solid = absurd cc
good_lines book ((word ∷ words) ∷ lines) named fits solid =
    let n = and_parts (list_all (has_text book) (word ∷ words)) (list_all (list_all (has_text book)) lines) named in
    let f = and_parts (list_all is_word_in_range (word ∷ words)) (list_all (list_all is_word_in_range) lines) fits in
    let s = and_parts (list_all is_solid_word (word ∷ words)) (list_all is_solid_line lines) solid in
    both (list_all (is_good book) (word ∷ words)) (list_all (is_good_line book) lines) (good_words book (word ∷ words) n.0 f.0 s.0) (good_lines book lines n.1 f.1 s.1)

good_log : (book : NameBook) (log : Log) → IsTrue (is_named book log) → IsTrue (is_in_range log) → IsTrue (list_all (is_good_line book) (lines_of log))
good_log book log named fits = good_lines book (lines_of log) named fits (solid_log log)

-- ---- the texts of the words of all lines are known from the text

free_texts : (book : NameBook) (c : ℕ) (words : List Word) → c < 33 → LawfulBook book → AreGood book words → AllFree c (texts_of book words)
free_texts book c [] low lawful good = tt
free_texts book c (word ∷ words) low lawful good =
    let parts = and_parts (is_good book word) (list_all (is_good book) words) good in
    (free_word book c word low lawful parts.0, free_texts book c words low lawful parts.1)

-- a line without its line feed
abbrev joined : NameBook → List Word → List ℕ
joined book words = join_with_byte 32 (texts_of book words)

free_lines : (book : NameBook) (lines : List (List Word)) → LawfulBook book → IsTrue (list_all (is_good_line book) lines) → AllFree 10 (map (joined book) lines)
free_lines book [] lawful good = tt
free_lines book ([] ∷ lines) lawful good = absurd cc
free_lines book ((word ∷ words) ∷ lines) lawful good =
    let parts = and_parts (list_all (is_good book) (word ∷ words)) (list_all (is_good_line book) lines) good in (
      free_join 10 32 (texts_of book (word ∷ words)) (λ same. omega (arith, same)) (free_texts book 10 (word ∷ words) (lit< tt) lawful parts.0),
      free_lines book lines lawful parts.1,
    )

ended_lines : (book : NameBook) (lines : List (List Word)) → flat_map (line_text book) lines ≡ ended 10 (map (joined book) lines)
ended_lines book [] = refl
ended_lines book (words ∷ lines) = ap (λ l. line_text book words ++ l) (ended_lines book lines)

line_texts : (book : NameBook) (a b : List Word) → LawfulBook book → IsTrue (is_good_line book a) → IsTrue (is_good_line book b) → joined book a ≡ joined book b → texts_of book a ≡ texts_of book b
line_texts book [] b lawful good good' e = absurd cc
line_texts book (a ∷ xs) [] lawful good good' e = absurd cc
line_texts book (a ∷ xs) (b ∷ ys) lawful good good' e =
    same_joined 32 _ _ _ _ (free_texts book 32 (a ∷ xs) (lit< tt) lawful good) (free_texts book 32 (b ∷ ys) (lit< tt) lawful good') e

texts_of_lines : (book : NameBook) (xs ys : List (List Word)) → LawfulBook book → IsTrue (list_all (is_good_line book) xs) → IsTrue (list_all (is_good_line book) ys)
    → map (joined book) xs ≡ map (joined book) ys → map (texts_of book) xs ≡ map (texts_of book) ys
texts_of_lines book [] [] lawful good good' e = refl
texts_of_lines book [] (b ∷ ys) lawful good good' e = absurd cc
texts_of_lines book (a ∷ xs) [] lawful good good' e = absurd cc
texts_of_lines book (a ∷ xs) (b ∷ ys) lawful good good' e =
    let p = and_parts (is_good_line book a) (list_all (is_good_line book) xs) good in
    let q = and_parts (is_good_line book b) (list_all (is_good_line book) ys) good' in
    let first = line_texts book a b lawful p.0 q.0 (ap (λ l. get_or l 0 []) e) in
    let rest = texts_of_lines book xs ys lawful p.1 q.1 (ap (drop 1) e) in
    λ i. first i ∷ rest i

-- ---- the log is known from them

-- items with xs many others, before something more
items_same : {X : Type 0} (book : NameBook) (w : X → List Word) (from : List (List ℕ) → X) (xs ys : List X) (r s : List (List (List ℕ)))
    → ((x : X) → IsTrue (is_good_line book (w x)) → from (texts_of book (w x)) ≡ x) → length xs ≡ length ys
    → IsTrue (list_all (is_good_line book) (map w xs)) → IsTrue (list_all (is_good_line book) (map w ys))
    → map (texts_of book) (map w xs) ++ r ≡ map (texts_of book) (map w ys) ++ s → (xs ≡ ys) × (r ≡ s)
items_same book w from [] [] r s back count good good' e = (refl, e)
items_same book w from [] (b ∷ ys) r s back count good good' e = absurd (omega (arith, count))
items_same book w from (a ∷ xs) [] r s back count good good' e = absurd (omega (arith, count))
items_same book w from (a ∷ xs) (b ∷ ys) r s back count good good' e =
    let p = and_parts (is_good_line book (w a)) (list_all (is_good_line book) (map w xs)) good in
    let q = and_parts (is_good_line book (w b)) (list_all (is_good_line book) (map w ys)) good' in
    let first : a ≡ b = sym (back a p.0) ∙ ap (λ l. from (get_or l 0 [])) e ∙ back b q.0 in
    let rest = items_same book w from xs ys r s back (omega (arith, count)) p.1 q.1 (ap (drop 1) e) in
    ((λ i. first i ∷ rest.0 i), rest.1)

good_of_line : (book : NameBook) (words : List Word) → IsTrue (is_good_line book words) → AreGood book words
good_of_line book [] good = absurd cc
good_of_line book (word ∷ words) good = good

-- what is good of lines is good of the first and of the others
split_good : (book : NameBook) (first more : List (List Word)) → IsTrue (list_all (is_good_line book) (first ++ more)) → IsTrue (list_all (is_good_line book) first) × IsTrue (list_all (is_good_line book) more)
split_good book first more good =
    and_parts (list_all (is_good_line book) first) (list_all (is_good_line book) more) (sym (list_all-append (is_good_line book) first more) ∙ good)

split_off : (book : NameBook) (first more : List (List Word)) (r : List (List (List ℕ))) → map (texts_of book) (first ++ more) ++ r ≡ map (texts_of book) first ++ (map (texts_of book) more ++ r)
split_off book first more r = ap (λ l. l ++ r) (map-append (texts_of book) first more) ∙ append_assoc (map (texts_of book) first) (map (texts_of book) more) r

split_both : (book : NameBook) (first more first' more' : List (List Word)) (r s : List (List (List ℕ))) → map (texts_of book) (first ++ more) ++ r ≡ map (texts_of book) (first' ++ more') ++ s
    → map (texts_of book) first ++ (map (texts_of book) more ++ r) ≡ map (texts_of book) first' ++ (map (texts_of book) more' ++ s)
split_both book first more first' more' r s e = sym (split_off book first more r) ∙ e ∙ split_off book first' more' s

parts_same : (book : NameBook) (xs ys : List PartLog) (r s : List (List (List ℕ))) → LawfulBook book → AllZip IsSamePart xs ys
    → IsTrue (list_all (is_good_line book) (flat_map lines_of_part xs)) → IsTrue (list_all (is_good_line book) (flat_map lines_of_part ys))
    → map (texts_of book) (flat_map lines_of_part xs) ++ r ≡ map (texts_of book) (flat_map lines_of_part ys) ++ s → (xs ≡ ys) × (r ≡ s)
parts_same book [] [] r s lawful shape good good' e = (refl, e)
parts_same book [] (y ∷ ys) r s lawful shape good good' e = absurd shape
parts_same book (x ∷ xs) [] r s lawful shape good good' e = absurd shape
parts_same book (x ∷ xs) (y ∷ ys) r s lawful ((caller, count), more) good good' e =
    let p = split_good book (lines_of_part x) (flat_map lines_of_part xs) good in
    let q = split_good book (lines_of_part y) (flat_map lines_of_part ys) good' in
    let others = map (texts_of book) (flat_map lines_of_part ys) ++ s in
    let lines = items_same book (words_of_call_line x.caller) (call_from book) x.lines y.lines (map (texts_of book) (flat_map lines_of_part xs) ++ r) others
    (λ line good. call_back book x.caller line lawful (good_of_line book (words_of_call_line x.caller line) good)) count p.0
    (subst (λ k. IsTrue (list_all (is_good_line book) (map (words_of_call_line k) y.lines))) (sym caller) q.0)
    (split_both book (lines_of_part x) (flat_map lines_of_part xs) (lines_of_part y) (flat_map lines_of_part ys) r s e
    ∙ ap (λ k. map (texts_of book) (map (words_of_call_line k) y.lines) ++ others) (sym caller)) in
    let rest = parts_same book xs ys r s lawful more p.1 q.1 lines.1 in
    ((λ i. record { caller = caller i; lines = lines.0 i } ∷ rest.0 i), rest.1)

phases_same : (book : NameBook) (number : ℕ) (xs ys : List PhaseLog) (r s : List (List (List ℕ))) → LawfulBook book → AllZip IsSamePhase xs ys
    → IsTrue (list_all (is_good_line book) (lines_of_phases number xs)) → IsTrue (list_all (is_good_line book) (lines_of_phases number ys))
    → map (texts_of book) (lines_of_phases number xs) ++ r ≡ map (texts_of book) (lines_of_phases number ys) ++ s → (xs ≡ ys) × (r ≡ s)
phases_same book number [] [] r s lawful shape good good' e = (refl, e)
phases_same book number [] (y ∷ ys) r s lawful shape good good' e = absurd shape
phases_same book number (x ∷ xs) [] r s lawful shape good good' e = absurd shape
phases_same book number (x ∷ xs) (y ∷ ys) r s lawful ((count, callers), more) good good' e =
    let p = split_good book (lines_of_phase number x) (lines_of_phases (number + 1) xs) good in
    let q = split_good book (lines_of_phase number y) (lines_of_phases (number + 1) ys) good' in
    let edits = map words_of_edit_line x.edits in
    let edits' = map words_of_edit_line y.edits in
    let parts = flat_map lines_of_part x.callers in
    let parts' = flat_map lines_of_part y.callers in
    let heads = and_parts (is_good_line book (words_of_phase_line number x)) (list_all (is_good_line book) (edits ++ parts)) p.0 in
    let heads' = and_parts (is_good_line book (words_of_phase_line number y)) (list_all (is_good_line book) (edits' ++ parts')) q.0 in
    let e1 = split_both book (lines_of_phase number x) (lines_of_phases (number + 1) xs) (lines_of_phase number y) (lines_of_phases (number + 1) ys) r s e in
    let numbers = phase_back book number x.from x.to heads.0 in
    let numbers' = phase_back book number y.from y.to heads'.0 in
    let from : x.from ≡ y.from = sym numbers.0 ∙ ap (λ l. digits_value 10 (get_or (get_or l 0 []) 2 [])) e1 ∙ numbers'.0 in
    let to : x.to ≡ y.to = sym numbers.1 ∙ ap (λ l. digits_value 10 (get_or (get_or l 0 []) 3 [])) e1 ∙ numbers'.1 in
    let r1 = map (texts_of book) (lines_of_phases (number + 1) xs) ++ r in
    let s1 = map (texts_of book) (lines_of_phases (number + 1) ys) ++ s in
    let g = split_good book edits parts heads.1 in
    let g' = split_good book edits' parts' heads'.1 in
    let lines = items_same book words_of_edit_line (edit_from book) x.edits y.edits (map (texts_of book) parts ++ r1) (map (texts_of book) parts' ++ s1)
    (λ line good. edit_back book line lawful (good_of_line book (words_of_edit_line line) good)) count g.0 g'.0
    (split_both book edits parts edits' parts' r1 s1 (ap (drop 1) e1)) in
    let those = parts_same book x.callers y.callers r1 s1 lawful callers g.1 g'.1 lines.1 in
    let rest = phases_same book (number + 1) xs ys r s lawful more p.1 q.1 those.1 in
    ((λ i. record { from = from i; to = to i; edits = lines.0 i; callers = those.0 i } ∷ rest.0 i), rest.1)

pub determined_by_text : DeterminedByText
determined_by_text book a b lawful fits fits' named named' shape same =
    let good = good_log book a named fits in
    let good' = good_log book b named' fits' in
    let text : Some (log_text book a) ≡ Some (log_text book b) = sym (named_text book a named) ∙ same ∙ named_text book b named' in
    let equal : log_text book a ≡ log_text book b = cc in
    let ends = same_texts 10 (map (joined book) (lines_of a)) (map (joined book) (lines_of b)) (free_lines book (lines_of a) lawful good) (free_lines book (lines_of b) lawful good')
    (sym (ended_lines book (lines_of a)) ∙ log_lines book a ∙ equal ∙ sym (log_lines book b) ∙ ended_lines book (lines_of b)) in
    let texts = texts_of_lines book (lines_of a) (lines_of b) lawful good good' ends in
    let p = split_good book (lines_of_phases 1 a.phases) (words_of_done_line a.last ∷ []) good in
    let q = split_good book (lines_of_phases 1 b.phases) (words_of_done_line b.last ∷ []) good' in
    let phases = phases_same book 1 a.phases b.phases (texts_of book (words_of_done_line a.last) ∷ []) (texts_of book (words_of_done_line b.last) ∷ []) lawful shape p.0 q.0
    (sym (map-append (texts_of book) (lines_of_phases 1 a.phases) (words_of_done_line a.last ∷ [])) ∙ texts ∙ map-append (texts_of book) (lines_of_phases 1 b.phases) (words_of_done_line b.last ∷ [])) in
    let last : a.last ≡ b.last =
    sym (last_back book a.last (the_first_line (is_good_line book (words_of_done_line a.last)) p.1)) ∙ ap (λ l. digits_value 10 (get_or (get_or l 0 []) 1 [])) phases.1
    ∙ last_back book b.last (the_first_line (is_good_line book (words_of_done_line b.last)) q.1) in
    λ i. record { phases = phases.0 i; last = last i }
  where
    the_first_line : (x : Bool) → IsTrue (x && true) → IsTrue x
    the_first_line x good = (and_parts x true good).0
