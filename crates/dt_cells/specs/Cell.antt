-- The word of a used cell: a tag, by which a look-up knows that the cell is its own, and the code of an answer.
use Rattle.std.specs.Prelude.{ℕ, ◌+◌, ◌-◌, ◌*◌, ◌/◌, ◌%◌, ◌^◌, ◌==◌, nat_le, if◌then◌else◌}
use Rattle.dt_scratch.specs.declared.reply.Answer.{Answer}
use Rattle.dt_scratch.specs.declared.reply.Answer.TheVariants.{Method, NotUnderstood, Ambiguous}

-- the word of an answer under a tag; what isn't understood has no used cell
abbrev pub cell_word : ℕ → Answer → ℕ
cell_word tag NotUnderstood = 0
cell_word tag Ambiguous = tag * 2 ^ 32 + 1
cell_word tag (Method body) = tag * 2 ^ 32 + (body + 2)

-- the answer of a code; a code that stands for nothing is not understood
abbrev pub answer_of_code : ℕ → Answer
answer_of_code code =
    if code == 0 then NotUnderstood else (if code == 1 then Ambiguous else (if nat_le code 65537 then Method (code - 2) else NotUnderstood))

-- the answer that a word gives to a look-up with this tag
abbrev pub answer_of_word : ℕ → ℕ → Answer
answer_of_word tag word = if word / 2 ^ 32 == tag then answer_of_code (word % 2 ^ 32) else NotUnderstood
