-- Selector table indexing, worked out: one class, one selector, one definition.
use Rattle.std.specs.Prelude.{◌≡◌, ℕ, ◌==◌, if◌then◌else◌, List, [], ◌∷◌, false, refl}
use Rattle.dt_pages.specs.Reading.{Reading, blank}
use Rattle.dt_scratch.specs.Query.{Query}
use Rattle.dt_scratch.specs.declared.reply.Answer.TheVariants.{Method, NotUnderstood, Ambiguous}
use Rattle.dt_scratch.specs.declared.reply.Reply.TheVariants.{NoSelector, WrongArity, NoClass, Answered}
use Rattle.dt_cells.specs.Cell.{cell_word}
use Rattle.dt_cells.specs.Find.{found}
use Rattle.dt_sti.specs.Sti.{cell_at, query_at, owns, tag_of, sti}

-- selector 0 takes one class, class 0 is live, and body 0 answers there
abbrev one_cell : Reading
one_cell address =
    if address == 0 then 1 else (if address == 4096 then 1 else (if address == 16777216 then 4294967298 else 0))

abbrev sent : ℕ → List ℕ → Query
sent selector classes = record { selector = selector; classes = classes }

the_first_cell : cell_at 0 0 ≡ 16777216
the_first_cell = refl

a_cell_of_the_second_selector : cell_at 1 3 ≡ 16779267
a_cell_of_the_second_selector = refl

the_last_cell : cell_at 4095 2047 ≡ 25165823
the_last_cell = refl

the_query_of_a_cell : query_at 16779267 ≡ sent 1 (3 ∷ [])
the_query_of_a_cell = refl

past_the_last_cell : owns 25165824 ≡ false
past_the_last_cell = refl

before_the_first_cell : owns 16777215 ≡ false
before_the_first_cell = refl

the_word_of_the_first_body : cell_word (tag_of 0) (Method 0) ≡ 4294967298
the_word_of_the_first_body = refl

the_word_of_an_ambiguous_answer : cell_word (tag_of 1) Ambiguous ≡ 8589934593
the_word_of_an_ambiguous_answer = refl

it_is_answered : found sti one_cell (sent 0 (0 ∷ [])) ≡ Answered (Method 0)
it_is_answered = refl

another_class : found sti one_cell (sent 0 (1 ∷ [])) ≡ NoClass 1
another_class = refl

a_class_past_the_last : found sti one_cell (sent 0 (2048 ∷ [])) ≡ NoClass 1
a_class_past_the_last = refl

another_selector : found sti one_cell (sent 1 (0 ∷ [])) ≡ NoSelector
another_selector = refl

a_selector_past_the_last : found sti one_cell (sent 4096 (0 ∷ [])) ≡ NoSelector
a_selector_past_the_last = refl

two_classes : found sti one_cell (sent 0 (0 ∷ 0 ∷ [])) ≡ WrongArity
two_classes = refl

-- the same with the cell cleared
abbrev no_cell : Reading
no_cell address = if address == 0 then 1 else (if address == 4096 then 1 else 0)

it_is_not_understood : found sti no_cell (sent 0 (0 ∷ [])) ≡ Answered NotUnderstood
it_is_not_understood = refl

-- a cell with the tag of another selector, with a code of 0, and with one past the last body
abbrev with_word : ℕ → Reading
with_word word address =
    if address == 0 then 1 else (if address == 4096 then 1 else (if address == 16777216 then word else 0))

the_tag_of_another_selector : found sti (with_word 8589934594) (sent 0 (0 ∷ [])) ≡ Answered NotUnderstood
the_tag_of_another_selector = refl

no_code : found sti (with_word 4294967296) (sent 0 (0 ∷ [])) ≡ Answered NotUnderstood
no_code = refl

the_last_body : found sti (with_word 4295032833) (sent 0 (0 ∷ [])) ≡ Answered (Method 65535)
the_last_body = refl

a_code_past_the_last_body : found sti (with_word 4295032834) (sent 0 (0 ∷ [])) ≡ Answered NotUnderstood
a_code_past_the_last_body = refl

the_empty_image : found sti blank (sent 0 (0 ∷ [])) ≡ NoSelector
the_empty_image = refl
