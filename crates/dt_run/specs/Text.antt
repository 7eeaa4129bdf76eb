-- The text of a log: the words of each of its lines as one table, its lines in their order, and their text.
use Rattle.std.specs.Prelude.{ℕ, ◌+◌, Bool, List, [], ◌∷◌, ◌++◌, map, flat_map, codes, Option, None, Some}
use Rattle.std.specs.List.{concat, join_with_byte, list_all}
use Rattle.std.specs.Option.{option_map}
use Rattle.dt_definitions.specs.declared.why.Why.{Why}
use Rattle.dt_definitions.specs.RefusalWords.{number_of, word_of, class_of}
use Rattle.dt_scratch.specs.declared.reply.Answer.TheVariants.{Method, NotUnderstood, Ambiguous}
use Rattle.dt_scratch.specs.declared.reply.Reply.{Reply}
use Rattle.dt_scratch.specs.declared.reply.Reply.TheVariants.{NoSelector, WrongArity, NoClass, Answered}
use Rattle.dt_script.specs.NameBook.{NameBook}
use Rattle.dt_script.specs.Named.{has_text}
use Rattle.dt_script.specs.Word.{Word, Plain, Number, Class, Body, text_of_word}
use Rattle.dt_run.specs.Log.{Log, PhaseLog, PartLog}
use Rattle.dt_run.specs.declared.log.CallLine.{CallLine}
use Rattle.dt_run.specs.declared.log.CallLine.TheVariants.{Called, CallWorn, PinnedAt, PinWorn, Unpinned}
use Rattle.dt_run.specs.declared.log.EditLine.{EditLine}
use Rattle.dt_run.specs.declared.log.EditLine.TheVariants.{Accepted, Refused, VersionsFull, CellsFull, RowsFull, NoPages}

-- the words of the first line of a phase, whose number is this
abbrev pub words_of_phase_line : ℕ → PhaseLog → List Word
words_of_phase_line number phase = Plain (codes "phase") ∷ Number number ∷ Number phase.from ∷ Number phase.to ∷ []

-- the class that a refusal is about, if it is about one
abbrev pub words_of_class : Option ℕ → List Word
words_of_class None = []
words_of_class (Some class) = Class class ∷ []

-- the words that tell a refusal after its number
abbrev pub words_of_why : Why → List Word
words_of_why why = Plain (word_of why) ∷ words_of_class (class_of why)

-- the words of the line of a batch
abbrev pub words_of_edit_line : EditLine → List Word
words_of_edit_line (Accepted version) = Plain (codes "edit") ∷ Plain (codes "accepted") ∷ Number version ∷ []
words_of_edit_line (Refused at why) =
    Plain (codes "edit") ∷ Plain (codes "refused") ∷ Number at ∷ Number (number_of why) ∷ words_of_why why
words_of_edit_line VersionsFull = Plain (codes "edit") ∷ Plain (codes "versions-full") ∷ []
words_of_edit_line CellsFull = Plain (codes "edit") ∷ Plain (codes "cells-full") ∷ []
words_of_edit_line RowsFull = Plain (codes "edit") ∷ Plain (codes "rows-full") ∷ []
words_of_edit_line (NoPages need free) =
    Plain (codes "edit") ∷ Plain (codes "no-pages") ∷ Number need ∷ Number free ∷ []

-- the words of a reply
abbrev pub words_of_reply : Reply → List Word
words_of_reply (Answered (Method body)) = Plain (codes "method") ∷ Body body ∷ []
words_of_reply (Answered Ambiguous) = Plain (codes "ambiguous") ∷ []
words_of_reply (Answered NotUnderstood) = Plain (codes "not-understood") ∷ []
words_of_reply NoSelector = Plain (codes "no-selector") ∷ []
words_of_reply WrongArity = Plain (codes "wrong-arity") ∷ []
words_of_reply (NoClass place) = Plain (codes "no-class") ∷ Number place ∷ []

-- the words of a line of this caller
abbrev pub words_of_call_line : ℕ → CallLine → List Word
words_of_call_line caller (Called stamped) =
    Plain (codes "call") ∷ Number caller ∷ Number stamped.version ∷ words_of_reply stamped.reply
words_of_call_line caller (CallWorn entries) =
    Plain (codes "call") ∷ Number caller ∷ Plain (codes "worn") ∷ Number entries ∷ []
words_of_call_line caller (PinnedAt version) = Plain (codes "pin") ∷ Number caller ∷ Number version ∷ []
words_of_call_line caller (PinWorn entries) =
    Plain (codes "pin") ∷ Number caller ∷ Plain (codes "worn") ∷ Number entries ∷ []
words_of_call_line caller Unpinned = Plain (codes "unpin") ∷ Number caller ∷ []

-- the words of the last line
abbrev pub words_of_done_line : ℕ → List Word
words_of_done_line last = Plain (codes "done") ∷ Number last ∷ []

-- the lines of a caller in a phase
abbrev pub lines_of_part : PartLog → List (List Word)
lines_of_part part = map (words_of_call_line part.caller) part.lines

-- the lines of a phase, whose number is this: its own, one for each batch, and those of its callers
abbrev pub lines_of_phase : ℕ → PhaseLog → List (List Word)
lines_of_phase number phase =
    words_of_phase_line number phase ∷ map words_of_edit_line phase.edits ++ flat_map lines_of_part phase.callers

-- the lines of phases, whose first has this number
abbrev pub lines_of_phases : ℕ → List PhaseLog → List (List Word)
lines_of_phases number [] = []
lines_of_phases number (phase ∷ phases) = lines_of_phase number phase ++ lines_of_phases (number + 1) phases

-- the lines of a log
abbrev pub lines_of : Log → List (List Word)
lines_of log = lines_of_phases 1 log.phases ++ words_of_done_line log.last ∷ []

-- all of them, if each is there
abbrev pub put_first : {A : Type 0} → Option A → Option (List A) → Option (List A)
put_first (Some item) (Some items) = Some (item ∷ items)
put_first _ _ = None

abbrev pub all_of : {A : Type 0} → List (Option A) → Option (List A)
all_of [] = Some []
all_of (item ∷ items) = put_first item (all_of items)

-- the text of a line, if each of its numbers has a name: its words with one space between two, and a line feed
abbrev pub text_of_line : NameBook → List Word → Option (List ℕ)
text_of_line book words =
    option_map (λ texts. join_with_byte 32 texts ++ 10 ∷ []) (all_of (map (text_of_word book) words))

-- the text of a log, if each number in it has a name
abbrev pub text_of : NameBook → Log → Option (List ℕ)
text_of book log = option_map concat (all_of (map (text_of_line book) (lines_of log)))

-- whether each number in the log has a name
abbrev pub is_named : NameBook → Log → Bool
is_named book log = list_all (list_all (has_text book)) (lines_of log)
