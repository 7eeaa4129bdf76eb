-- Putting a text through a buffer: what the sink took, what is still held, and what is put at last.
use Rattle.std.specs.Prelude.{◌≡◌, ℕ, ◌+◌, ◌≤◌, List, [], ◌∷◌, ◌++◌, map, flat_map, Option, Result, Ok, Err}
use Rattle.std.specs.List.{join_with_byte}
use Rattle.std.specs.Io.KnownBytes.{Appends}
use Rattle.dt_outside.specs.Faults.{one_fault_more}
use Rattle.dt_script.specs.NameBook.{NameBook}
use Rattle.dt_script.specs.Word.{Word}
use Rattle.dt_script.specs.Writing.{word_text}
use Rattle.dt_run.specs.Log.{Log, PhaseLog, PartLog}
use Rattle.dt_run.specs.LogWord.{text_of_log_word}
use Rattle.dt_run.specs.Text.{words_of_phase_line, words_of_edit_line, words_of_call_line, words_of_done_line}
use Rattle.dt_run.specs.declared.log.EditLine.{EditLine}
use Rattle.dt_run.specs.declared.print.words.LogWord.{LogWord}

-- what the sink took, how often it failed, and what is held back
pub record Out : Type 0 where
  pub taken : Option (List ℕ)
  pub faults : ℕ
  pub held : List ℕ

abbrev pub out_of : Option (List ℕ) → ℕ → List ℕ → Out
out_of taken faults held = record { taken = taken; faults = faults; held = held }

-- the sink took a front of what was held and the text, and the rest is left
pub record Takes (old new : Out) (text rest : List ℕ) : Type 0 where
  pub front : List ℕ
  pub appended : Appends old.taken new.taken front
  pub split : old.held ++ text ≡ front ++ rest

-- the text was put: what is left is held, and the sink didn't fail
abbrev pub IsPut : Out → Out → List ℕ → Type 0
IsPut old new text = Takes old new text new.held × (new.faults ≡ old.faults)

-- the sink failed once, and something of the text is left
abbrev pub IsCutOff : Out → Out → List ℕ → Type 0
IsCutOff old new text =
    (rest : List ℕ) × Takes old new text rest × (new.faults ≡ one_fault_more old.faults) × (old.faults ≤ new.faults)

-- putting a text
abbrev pub Put : {E : Type 0} → Result Unit E → Out → Out → List ℕ → Type 0
Put (Ok done) old new text = IsPut old new text
Put (Err fault) old new text = IsCutOff old new text

-- putting a text to a sink, which tells what it took and how often it failed, through what is held for it
abbrev pub Puts : {S E : Type 0} → (S → Option (List ℕ)) → (S → ℕ) → Result Unit E → S → List ℕ → S → List ℕ → List ℕ → Type 0
Puts taken faults result sink held sink' held' text =
    Put result (out_of (taken sink) (faults sink) held) (out_of (taken sink') (faults sink') held') text

-- each word behind a space
abbrev pub spaced : List (List ℕ) → List ℕ
spaced texts = flat_map (λ text. 32 ∷ text) texts

abbrev pub spaced_words : List LogWord → List ℕ
spaced_words words = flat_map (λ word. 32 ∷ text_of_log_word word) words

-- the words as a line
abbrev pub line_of : List (List ℕ) → List ℕ
line_of texts = join_with_byte 32 texts ++ 10 ∷ []

-- the text of a line, of lines and of a log whose numbers have names
abbrev pub line_text : NameBook → List Word → List ℕ
line_text book words = line_of (map (word_text book) words)

abbrev pub edits_text : NameBook → List EditLine → List ℕ
edits_text book lines = flat_map (λ line. line_text book (words_of_edit_line line)) lines

abbrev pub part_text : NameBook → PartLog → List ℕ
part_text book part = flat_map (λ line. line_text book (words_of_call_line part.caller line)) part.lines

abbrev pub phase_text : NameBook → ℕ → PhaseLog → List ℕ
phase_text book number phase =
    line_text book (words_of_phase_line number phase)
    ++ (edits_text book phase.edits ++ flat_map (part_text book) phase.callers)

abbrev pub phases_text : NameBook → ℕ → List PhaseLog → List ℕ
phases_text book number [] = []
phases_text book number (phase ∷ phases) = phase_text book number phase ++ phases_text book (number + 1) phases

abbrev pub log_text : NameBook → Log → List ℕ
log_text book log = phases_text book 1 log.phases ++ line_text book (words_of_done_line log.last)
