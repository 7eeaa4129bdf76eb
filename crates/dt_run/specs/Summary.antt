-- The summary of a log: ten lines, each a word and a number.
use Rattle.std.specs.Prelude.{ℕ, ◌+◌, ◌*◌, ◌%◌, ◌^◌, ◌<◌, Bool, true, false, not, List, [], ◌∷◌, ◌++◌, flat_map, length, codes, decimal, Option}
use Rattle.std.specs.List.{fold, join_with_byte, sum_by}
use Rattle.std.specs.Io.KnownBytes.{Appends}
use Rattle.dt_outside.specs.Putting.{AppendsPrefix}
use Rattle.dt_scratch.specs.declared.reply.Answer.{Answer}
use Rattle.dt_scratch.specs.declared.reply.Answer.TheVariants as answer
use Rattle.dt_scratch.specs.declared.reply.Reply.{Reply}
use Rattle.dt_scratch.specs.declared.reply.Reply.TheVariants.{Answered}
use Rattle.dt_script.specs.NameBook.{NameBook}
use Rattle.dt_run.specs.Log.{Log, PhaseLog, PartLog}
use Rattle.dt_run.specs.declared.log.CallLine.{CallLine}
use Rattle.dt_run.specs.declared.log.CallLine.TheVariants.{Called, CallWorn}
use Rattle.dt_run.specs.declared.log.EditLine.{EditLine}
use Rattle.dt_run.specs.declared.log.EditLine.TheVariants as edit
use Rattle.dt_run.specs.declared.print.figure.Figure.{Figure}
use Rattle.dt_run.specs.declared.print.figure.Figure.TheVariants.{Classes, Selectors, Accepted, Refused, Method, Ambiguous, NotUnderstood, Other, Mix, Done}
use Rattle.dt_run.specs.declared.print.figure.Told.{Told}
use Rattle.dt_run.specs.declared.print.figure.Told.TheVariants as told

-- the word of a line
abbrev pub word_of : Figure → List ℕ
word_of Classes = codes "classes"
word_of Selectors = codes "selectors"
word_of Accepted = codes "accepted"
word_of Refused = codes "refused"
word_of Method = codes "method"
word_of Ambiguous = codes "ambiguous"
word_of NotUnderstood = codes "not-understood"
word_of Other = codes "other"
word_of Mix = codes "mix"
word_of Done = codes "done"

-- what an answer is told as
abbrev pub is_answer_told : Told → Answer → Bool
is_answer_told told.Method (answer.Method body) = true
is_answer_told told.Ambiguous answer.Ambiguous = true
is_answer_told told.NotUnderstood answer.NotUnderstood = true
is_answer_told what found = false

-- a call that came to no answer is told as other
abbrev pub is_other : Told → Bool
is_other told.Other = true
is_other what = false

abbrev pub is_reply_told : Told → Reply → Bool
is_reply_told what (Answered found) = is_answer_told what found
is_reply_told what reply = is_other what

-- a pin and its end are no calls, and are told as nothing
abbrev pub is_told : Told → CallLine → Bool
is_told what (Called stamped) = is_reply_told what stamped.reply
is_told what (CallWorn entries) = is_other what
is_told what line = false

-- whether the batch was accepted, and whether it was as this says
abbrev pub is_accepted : EditLine → Bool
is_accepted (edit.Accepted version) = true
is_accepted line = false

abbrev pub is_as : Bool → EditLine → Bool
is_as true line = is_accepted line
is_as false line = not (is_accepted line)

-- 1 where it holds, and else 0
abbrev pub one_if : Bool → ℕ
one_if true = 1
one_if false = 0

-- how many calls of a caller, of a phase and of a log are told as this
abbrev pub told_by : Told → PartLog → ℕ
told_by what part = sum_by (λ line. one_if (is_told what line)) part.lines

abbrev pub told_in : Told → PhaseLog → ℕ
told_in what phase = sum_by (told_by what) phase.callers

abbrev pub count_told : Told → Log → ℕ
count_told what log = sum_by (told_in what) log.phases

-- how many batches of a phase and of a log were accepted, or weren't
abbrev pub batches_in : Bool → PhaseLog → ℕ
batches_in accepted phase = sum_by (λ line. one_if (is_as accepted line)) phase.edits

abbrev pub count_batches : Bool → Log → ℕ
count_batches accepted log = sum_by (batches_in accepted) log.phases

-- the code of a reply: 1 for ambiguous, two more than its number for a body, else 0
abbrev pub code_of_answer : Answer → ℕ
code_of_answer (answer.Method body) = body + 2
code_of_answer answer.Ambiguous = 1
code_of_answer answer.NotUnderstood = 0

abbrev pub code_of_reply : Reply → ℕ
code_of_reply (Answered found) = code_of_answer found
code_of_reply reply = 0

-- the mix after a line, of a caller, of a phase and of a log: over all calls, in the order of the text
abbrev pub mixed_with : ℕ → ℕ → ℕ
mixed_with mix code = (mix * 31 + code) % 2 ^ 32

abbrev pub mixed : ℕ → CallLine → ℕ
mixed mix (Called stamped) = mixed_with mix (code_of_reply stamped.reply)
mixed mix (CallWorn entries) = mixed_with mix 0
mixed mix line = mix

abbrev pub mixed_by : ℕ → PartLog → ℕ
mixed_by mix part = fold mixed mix part.lines

abbrev pub mixed_in : ℕ → PhaseLog → ℕ
mixed_in mix phase = fold mixed_by mix phase.callers

abbrev pub mix_of : Log → ℕ
mix_of log = fold mixed_in 0 log.phases

-- the number of a line
abbrev pub number_of : NameBook → Log → Figure → ℕ
number_of book log Classes = length book.classes
number_of book log Selectors = length book.selectors
number_of book log Accepted = count_batches true log
number_of book log Refused = count_batches false log
number_of book log Method = count_told told.Method log
number_of book log Ambiguous = count_told told.Ambiguous log
number_of book log NotUnderstood = count_told told.NotUnderstood log
number_of book log Other = count_told told.Other log
number_of book log Mix = mix_of log
number_of book log Done = log.last

-- the lines in their order, and the text of a line: its word, a space, its number and a line feed
abbrev pub all_figures : List Figure
all_figures = Classes ∷ Selectors ∷ Accepted ∷ Refused ∷ Method ∷ Ambiguous ∷ NotUnderstood ∷ Other ∷ Mix ∷ Done ∷ []

abbrev pub figure_text : NameBook → Log → Figure → List ℕ
figure_text book log figure = join_with_byte 32 (word_of figure ∷ decimal (number_of book log figure) ∷ []) ++ 10 ∷ []

abbrev pub summary_of : NameBook → Log → List ℕ
summary_of book log = flat_map (figure_text book log) all_figures

-- there are fewer lines of batches, and of callers, than 64 bits can count
abbrev pub IsCountable : Log → Type 0
IsCountable log = (sum_by (λ phase. length phase.edits) log.phases < 2 ^ 64)
    × (sum_by (λ phase. sum_by (λ part. length part.lines) phase.callers) log.phases < 2 ^ 64)

-- the sink took the summary, and a prefix of it
abbrev pub TookSummary : NameBook → Log → Option (List ℕ) → Option (List ℕ) → Type 0
TookSummary book log before after = Appends before after (summary_of book log)

abbrev pub TookSummaryPrefix : NameBook → Log → Option (List ℕ) → Option (List ℕ) → Type 0
TookSummaryPrefix book log before after = AppendsPrefix before after (summary_of book log)
