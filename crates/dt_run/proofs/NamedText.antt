-- The text of a log whose numbers have names, phase by phase and as a list of lines.
use Rattle.std.proofs.Common.{◌≡◌, ℕ, ◌+◌, ◌<◌, ◌≤◌, Bool, true, false, ◌&&◌, IsTrue, List, [], ◌∷◌, ◌++◌, length, take, drop, get_or, map, flat_map, Option, Some, None, is_some, Result, Ok, Err, unwrap_or, refl, sym, ap, subst, ◌∙◌, arith, append_assoc, append-nil, add-one, drop-cons, length-append}
use Rattle.std.specs.Prelude.{IsErr, OnOk}
use Rattle.std.specs.List.{concat, join_with_byte, list_all}
use Rattle.std.specs.Option.{option_map}
use Rattle.std.specs.Io.KnownBytes.{Appends}
use Rattle.std.proofs.lemmas.Grind.{flat_map-append}
use Rattle.std.proofs.Math.Seq.{take-append_seam}
use Rattle.dt_outside.specs.Faults.{IsCounted}
use Rattle.dt_outside.specs.Putting.{AppendsPrefix}
use Rattle.dt_script.specs.NameBook.{NameBook}
use Rattle.dt_script.specs.Named.{has_text}
use Rattle.dt_script.specs.Word.{Word, text_of_word}
use Rattle.dt_script.specs.Writing.{word_text}
use Rattle.dt_run.specs.Log.{Log, PhaseLog, PartLog}
use Rattle.dt_run.specs.Text.{text_of, text_of_line, is_named, all_of, put_first, lines_of, lines_of_phases, lines_of_phase, lines_of_part, words_of_edit_line, words_of_call_line, words_of_phase_line, words_of_done_line}
use Rattle.dt_run.specs.TextLaws.{TextWhereNamed}
use Rattle.dt_run.specs.Printed.{TookText, TookPrefix}
use Rattle.dt_run.specs.Putting.{Out, out_of, IsPut, IsCutOff, Put, line_text, part_text, phase_text, phases_text, log_text}
use Rattle.dt_run.proofs.Putting.{then_more, stopped}

-- ---- phase by phase

next_phase : (book : NameBook) (phases : List PhaseLog) (i : ℕ) (d phase : PhaseLog) → i < length phases → phase ≡ get_or phases i d
    → phases_text book (i + 1) (drop i phases) ≡ phase_text book (i + 1) phase ++ phases_text book (i + 1 + 1) (drop (i + 1) phases)
next_phase book phases i d phase below is =
    ap (phases_text book (i + 1)) here
    ∙ ap (λ p. phase_text book (i + 1) p ++ phases_text book (i + 1 + 1) (drop (i + 1) phases)) (sym is)
  where
    here : drop i phases ≡ get_or phases i d ∷ drop (i + 1) phases
    here = rw add-one (drop-cons phases i d below)

-- the phases before this one were put
abbrev SoFar : Out → Out → NameBook → List PhaseLog → ℕ → Type 0
SoFar s0 s1 book phases i =
    (so_far : List ℕ) × IsPut s0 s1 so_far × (so_far ++ phases_text book (i + 1) (drop i phases) ≡ phases_text book 1 phases)

pub phase_turn : (s0 s1 s2 : Out) (book : NameBook) (phases : List PhaseLog) (i : ℕ) (d phase : PhaseLog) → i < length phases → phase ≡ get_or phases i d
    → SoFar s0 s1 book phases i → IsPut s1 s2 (phase_text book (i + 1) phase) → SoFar s0 s2 book phases (i + 1)
phase_turn s0 s1 s2 book phases i d phase below is (so_far, put, same) more = (
  so_far ++ phase_text book (i + 1) phase,
  then_more {E = ℕ} (Ok tt) s0 s1 s2 so_far (phase_text book (i + 1) phase) put more,
  append_assoc so_far (phase_text book (i + 1) phase) (phases_text book (i + 1 + 1) (drop (i + 1) phases))
      ∙ ap (λ l. so_far ++ l) (sym (next_phase book phases i d phase below is)) ∙ same,
)

pub phase_stopped : {E : Type 0} (r : Result Unit E) (s0 s1 s2 : Out) (book : NameBook) (phases : List PhaseLog) (i : ℕ) (d phase : PhaseLog) → IsErr r → i < length phases → phase ≡ get_or phases i d
    → SoFar s0 s1 book phases i → IsCutOff s1 s2 (phase_text book (i + 1) phase) → Put r s0 s2 (phases_text book 1 phases)
phase_stopped r s0 s1 s2 book phases i d phase err below is (so_far, put, same) cut =
    subst (Put r s0 s2) (ap (λ l. so_far ++ l) (sym (next_phase book phases i d phase below is)) ∙ same)
    (then_more r s0 s1 s2 so_far (phase_text book (i + 1) phase ++ phases_text book (i + 1 + 1) (drop (i + 1) phases)) put
    (stopped r s1 s2 (phase_text book (i + 1) phase) (phases_text book (i + 1 + 1) (drop (i + 1) phases)) err cut))

-- ---- as a list of lines

map_flat : {X Y Z : Type 0} (f : X → Y) (g : Y → List Z) (xs : List X) → flat_map g (map f xs) ≡ flat_map (λ x. g (f x)) xs
map_flat f g [] = refl
map_flat f g (x ∷ xs) = ap (λ l. g (f x) ++ l) (map_flat f g xs)

parts_lines : (book : NameBook) (parts : List PartLog) → flat_map (line_text book) (flat_map lines_of_part parts) ≡ flat_map (part_text book) parts
parts_lines book [] = refl
parts_lines book (part ∷ parts) =
    flat_map-append (line_text book) (lines_of_part part) (flat_map lines_of_part parts)
    ∙ ap (λ l. l ++ flat_map (line_text book) (flat_map lines_of_part parts)) (map_flat (words_of_call_line part.caller) (line_text book) part.lines)
    ∙ ap (λ l. part_text book part ++ l) (parts_lines book parts)

phase_lines : (book : NameBook) (number : ℕ) (phase : PhaseLog) → flat_map (line_text book) (lines_of_phase number phase) ≡ phase_text book number phase
phase_lines book number phase = ap (λ l. line_text book (words_of_phase_line number phase) ++ l)
    (flat_map-append (line_text book) (map words_of_edit_line phase.edits) (flat_map lines_of_part phase.callers)
    ∙ ap (λ l. l ++ flat_map (line_text book) (flat_map lines_of_part phase.callers)) (map_flat words_of_edit_line (line_text book) phase.edits)
    ∙ ap (λ l. flat_map (λ line. line_text book (words_of_edit_line line)) phase.edits ++ l) (parts_lines book phase.callers))

phases_lines : (book : NameBook) (number : ℕ) (phases : List PhaseLog) → flat_map (line_text book) (lines_of_phases number phases) ≡ phases_text book number phases
phases_lines book number [] = refl
phases_lines book number (phase ∷ phases) =
    flat_map-append (line_text book) (lines_of_phase number phase) (lines_of_phases (number + 1) phases)
    ∙ ap (λ l. l ++ flat_map (line_text book) (lines_of_phases (number + 1) phases)) (phase_lines book number phase)
    ∙ ap (λ l. phase_text book number phase ++ l) (phases_lines book (number + 1) phases)

pub log_lines : (book : NameBook) (log : Log) → flat_map (line_text book) (lines_of log) ≡ log_text book log
log_lines book log =
    flat_map-append (line_text book) (lines_of_phases 1 log.phases) (words_of_done_line log.last ∷ [])
    ∙ ap (λ l. l ++ flat_map (line_text book) (words_of_done_line log.last ∷ [])) (phases_lines book 1 log.phases)
    ∙ ap (λ l. phases_text book 1 log.phases ++ l) (append-nil (line_text book (words_of_done_line log.last)))

-- ---- where all numbers have names

both : {a b : Bool} → IsTrue (a && b) → IsTrue a × IsTrue b
both {a = true} {b = true} is = (refl, refl)
both {a = true} {b = false} is = absurd cc
both {a = false} {b = b} is = absurd cc

named_word : (book : NameBook) (word : Word) → IsTrue (has_text book word) → text_of_word book word ≡ Some (word_text book word)
named_word book word is = by (text_of_word book word) is
  where
    by : (o : Option (List ℕ)) → IsTrue (is_some o) → o ≡ Some (unwrap_or o [])
    by None some = absurd cc
    by (Some text) some = refl

named_words : (book : NameBook) (words : List Word) → IsTrue (list_all (has_text book) words) → all_of (map (text_of_word book) words) ≡ Some (map (word_text book) words)
named_words book [] named = refl
named_words book (word ∷ words) named = let b = both {a = has_text book word} {b = list_all (has_text book) words} named in
    ap (λ o. put_first o (all_of (map (text_of_word book) words))) (named_word book word b.0)
    ∙ ap (put_first (Some (word_text book word))) (named_words book words b.1)

named_line : (book : NameBook) (words : List Word) → IsTrue (list_all (has_text book) words) → text_of_line book words ≡ Some (line_text book words)
named_line book words named = ap (option_map (λ texts. join_with_byte 32 texts ++ 10 ∷ [])) (named_words book words named)

named_lines : (book : NameBook) (lines : List (List Word)) → IsTrue (list_all (list_all (has_text book)) lines) → all_of (map (text_of_line book) lines) ≡ Some (map (line_text book) lines)
named_lines book [] named = refl
named_lines book (words ∷ lines) named = let b = both {a = list_all (has_text book) words} {b = list_all (list_all (has_text book)) lines} named in
    ap (λ o. put_first o (all_of (map (text_of_line book) lines))) (named_line book words b.0)
    ∙ ap (put_first (Some (line_text book words))) (named_lines book lines b.1)

concat_map : {X : Type 0} (f : X → List ℕ) (xs : List X) → concat (map f xs) ≡ flat_map f xs
concat_map f [] = refl
concat_map f (x ∷ xs) = ap (λ l. f x ++ l) (concat_map f xs)

pub named_text : (book : NameBook) (log : Log) → IsTrue (is_named book log) → text_of book log ≡ Some (log_text book log)
named_text book log named =
    ap (option_map concat) (named_lines book (lines_of log) named) ∙ ap Some (concat_map (line_text book) (lines_of log) ∙ log_lines book log)

-- ---- where a number has none

there_or_not : {A B : Type 0} (f : A → B) (o : Option A) → is_some (option_map f o) ≡ is_some o
there_or_not f None = refl
there_or_not f (Some x) = refl

first_and_rest : {A : Type 0} (o : Option A) (os : Option (List A)) → is_some (put_first o os) ≡ (is_some o && is_some os)
first_and_rest None os = refl
first_and_rest (Some x) None = refl
first_and_rest (Some x) (Some xs) = refl

all_there : {X A : Type 0} (f : X → Option A) (xs : List X) → is_some (all_of (map f xs)) ≡ list_all (λ x. is_some (f x)) xs
all_there f [] = refl
all_there f (x ∷ xs) = first_and_rest (f x) (all_of (map f xs)) ∙ ap (λ b. is_some (f x) && b) (all_there f xs)

lines_there : (book : NameBook) (lines : List (List Word)) → list_all (λ words. is_some (text_of_line book words)) lines ≡ list_all (list_all (has_text book)) lines
lines_there book [] = refl
lines_there book (words ∷ lines) =
    ap (λ b. b && list_all (λ ws. is_some (text_of_line book ws)) lines)
    (there_or_not (λ texts. join_with_byte 32 texts ++ 10 ∷ []) (all_of (map (text_of_word book) words)) ∙ all_there (text_of_word book) words)
    ∙ ap (λ b. list_all (has_text book) words && b) (lines_there book lines)

pub text_where_named : TextWhereNamed
text_where_named book log =
    there_or_not concat (all_of (map (text_of_line book) (lines_of log))) ∙ all_there (text_of_line book) (lines_of log) ∙ lines_there book (lines_of log)

-- ---- what the sink took

took_prefix : (old new : Option (List ℕ)) (text front rest : List ℕ) → Appends old new front → text ≡ front ++ rest → AppendsPrefix old new text
took_prefix old new text front rest taken split = (
  length front,
  omega (arith, ap length split, length-append front rest),
  subst (Appends old new) (sym (ap (take (length front)) split ∙ take-append_seam front rest)) taken,
)

-- where putting a text was cut off, the sink took a prefix
pub cut : (old new : Option (List ℕ)) (faults faults' : ℕ) (start held text : List ℕ) → start ≡ []
    → IsCutOff (out_of old faults start) (out_of new faults' held) text → AppendsPrefix old new text
cut old new faults faults' start held text empty (rest, t, once, counts) =
    took_prefix old new text t.front rest t.appended (ap (λ l. l ++ text) (sym empty) ∙ t.split)

pub cut_short : (old new : Option (List ℕ)) (faults faults' : ℕ) (start held : List ℕ) (book : NameBook) (log : Log) → start ≡ [] → IsTrue (is_named book log)
    → IsCutOff (out_of old faults start) (out_of new faults' held) (log_text book log) → TookPrefix book log old new
cut_short old new faults faults' start held book log empty named off =
    (log_text book log, named_text book log named, cut old new faults faults' start held (log_text book log) empty off)

-- what putting a text and then what is held says of the sink, whose count says whether it failed
pub flushed : {E : Type 0} (r : Result Unit E) (old new : Option (List ℕ)) (faults faults' : ℕ) (start held text : List ℕ) → start ≡ []
    → OnOk r (held ≡ []) → Put r (out_of old faults start) (out_of new faults' held) text
    → OnOk r (Appends old new text) × AppendsPrefix old new text × IsCounted r faults faults' × (faults ≤ faults')
flushed (Ok done) old new faults faults' start held text empty none (t, same) =
    let split : text ≡ t.front ++ [] = ap (λ l. l ++ text) (sym empty) ∙ t.split ∙ ap (λ l. t.front ++ l) none in (
      subst (Appends old new) (sym (split ∙ append-nil t.front)) t.appended,
      took_prefix old new text t.front [] t.appended split,
      same,
      omega (arith, same),
    )
flushed (Err fault) old new faults faults' start held text empty none off =
    (tt, cut old new faults faults' start held text empty off, off.2, off.3)

on_ok : {E P Q : Type 0} (r : Result Unit E) → OnOk r P → (P → Q) → OnOk r Q
on_ok (Ok done) holds then = then holds
on_ok (Err fault) holds then = tt

-- what printing says of the sink
abbrev Printed : {E : Type 0} → Result Unit E → Option (List ℕ) → Option (List ℕ) → ℕ → ℕ → NameBook → Log → Type 0
Printed r old new faults faults' book log =
    OnOk r (TookText book log old new) × TookPrefix book log old new × IsCounted r faults faults' × (faults ≤ faults')

pub printed : {E : Type 0} (r : Result Unit E) (old new : Option (List ℕ)) (faults faults' : ℕ) (start held : List ℕ) (book : NameBook) (log : Log) → start ≡ [] → IsTrue (is_named book log)
    → OnOk r (held ≡ []) → Put r (out_of old faults start) (out_of new faults' held) (log_text book log) → Printed r old new faults faults' book log
printed r old new faults faults' start held book log empty named none put =
    let all = flushed r old new faults faults' start held (log_text book log) empty none put in
    let is = named_text book log named in
    (on_ok r all.0 (λ taken. (log_text book log, is, taken)), (log_text book log, is, all.1), all.2, all.3)
