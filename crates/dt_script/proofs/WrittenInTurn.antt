-- The text of lines that are written in turn, as it grows from the first thing on.
use Rattle.std.proofs.Common.{◌≡◌, ℕ, ◌+◌, zero, suc, List, [], ◌∷◌, ◌++◌, codes, refl, sym, ap, ◌∙◌, append_assoc, append-nil, arith}
use Rattle.std.proofs.lemmas.Grind.{flat_map-append}
use Rattle.dt_script.specs.Draw.{state_after}
use Rattle.dt_script.specs.GeneratedLines.{lines_in_turn}
use Rattle.dt_script.specs.GeneratedText.{ended, text_of_lines}
use Rattle.dt_script.specs.declared.line.Line.{Line}
use Rattle.dt_script.specs.declared.line.Line.TheVariants.{Begin, Commit}

-- ---- lists

pub lines-none : (lines : ℕ → ℕ → List Line) (leaves : ℕ → ℕ → ℕ) (state number : ℕ) → lines_in_turn lines leaves state number 0 ≡ []
unfolding lines_in_turn
lines-none lines leaves state number = refl

pub state-none : (leaves : ℕ → ℕ → ℕ) (state number : ℕ) → state_after leaves state number 0 ≡ state
unfolding state_after
state-none leaves state number = refl

-- one more comes last
pub state-more : (leaves : ℕ → ℕ → ℕ) (state number count : ℕ)
    → state_after leaves state number (suc count) ≡ leaves (state_after leaves state number count) (number + count)
unfolding state_after
state-more leaves state number zero = ap (leaves state) (omega arith)
state-more leaves state number (suc count) =
    state-more leaves (leaves state number) (number + 1) count
    ∙ ap (leaves (state_after leaves (leaves state number) (number + 1) count)) (omega arith)

pub lines-more : (lines : ℕ → ℕ → List Line) (leaves : ℕ → ℕ → ℕ) (state number count : ℕ)
    → lines_in_turn lines leaves state number (suc count)
    ≡ lines_in_turn lines leaves state number count ++ lines (state_after leaves state number count) (number + count)
unfolding lines_in_turn state_after
lines-more lines leaves state number zero = append-nil (lines state number) ∙ ap (lines state) (omega arith)
lines-more lines leaves state number (suc count) =
    ap (λ l. lines state number ++ l) (lines-more lines leaves (leaves state number) (number + 1) count)
    ∙ sym (append_assoc (lines state number) (lines_in_turn lines leaves (leaves state number) (number + 1) count) (lines (state_after leaves (leaves state number) (number + 1) count) (number + 1 + count)))
    ∙ ap (λ n. (lines state number ++ lines_in_turn lines leaves (leaves state number) (number + 1) count) ++ lines (state_after leaves (leaves state number) (number + 1) count) n) (omega arith)

-- ---- text

pub text-append : (a b : List Line) → text_of_lines (a ++ b) ≡ text_of_lines a ++ text_of_lines b
text-append a b = flat_map-append ended a b

pub text-one : (line : Line) → text_of_lines (line ∷ []) ≡ ended line
text-one line = append-nil (ended line)

-- So many things, the first of which has this number, were written after the text before, from the state `start` on.
pub record WrittenSoFar (lines : ℕ → ℕ → List Line) (leaves : ℕ → ℕ → ℕ) (before : List ℕ) (start first count : ℕ) (text : List ℕ) (state : ℕ) : Type 0 where
  pub text_is : text ≡ before ++ text_of_lines (lines_in_turn lines leaves start first count)
  pub state_is : state ≡ state_after leaves start first count

pub nothing_written : (lines : ℕ → ℕ → List Line) (leaves : ℕ → ℕ → ℕ) (before : List ℕ) (start first : ℕ)
    → WrittenSoFar lines leaves before start first 0 before start
nothing_written lines leaves before start first = record {
  text_is = sym (append-nil before) ∙ ap (λ l. before ++ text_of_lines l) (sym (lines-none lines leaves start first));
  state_is = sym (state-none leaves start first);
}

pub one_more_written : (lines : ℕ → ℕ → List Line) (leaves : ℕ → ℕ → ℕ) (before : List ℕ) (start first count number : ℕ) (text next : List ℕ) (state after : ℕ)
    → number ≡ first + count → next ≡ text ++ text_of_lines (lines state number) → after ≡ leaves state number
    → WrittenSoFar lines leaves before start first count text state → WrittenSoFar lines leaves before start first (count + 1) next after
one_more_written lines leaves before start first count number text next state after at is is' so_far =
    let one : count + 1 ≡ suc count = omega arith in
    let here : lines state number ≡ lines (state_after leaves start first count) (first + count) = ap (lines state) at ∙ ap (λ s. lines s (first + count)) so_far.state_is in
    record {
      text_is =
          is ∙ ap (λ l. l ++ text_of_lines (lines state number)) so_far.text_is
          ∙ append_assoc before (text_of_lines (lines_in_turn lines leaves start first count)) (text_of_lines (lines state number))
          ∙ ap (λ l. before ++ l) (sym (text-append (lines_in_turn lines leaves start first count) (lines state number)))
          ∙ ap (λ l. before ++ text_of_lines (lines_in_turn lines leaves start first count ++ l)) here
          ∙ ap (λ l. before ++ text_of_lines l) (sym (lines-more lines leaves start first count))
          ∙ ap (λ n. before ++ text_of_lines (lines_in_turn lines leaves start first n)) (sym one);
      state_is = is' ∙ ap (leaves state) at ∙ ap (λ s. leaves s (first + count)) so_far.state_is ∙ sym (state-more leaves start first count) ∙ ap (state_after leaves start first) (sym one);
    }

-- a line of its own
pub one_line_written : (lines : ℕ → ℕ → List Line) (leaves : ℕ → ℕ → ℕ) (before : List ℕ) (start first count number : ℕ) (text next : List ℕ) (state after : ℕ) (line : Line)
    → number ≡ first + count → next ≡ text ++ ended line → lines state number ≡ line ∷ [] → after ≡ leaves state number
    → WrittenSoFar lines leaves before start first count text state → WrittenSoFar lines leaves before start first (count + 1) next after
one_line_written lines leaves before start first count number text next state after line at is alone is' so_far =
    one_more_written lines leaves before start first count number text next state after at
    (is ∙ ap (λ l. text ++ l) (sym (text-one line)) ∙ ap (λ l. text ++ text_of_lines l) (sym alone)) is' so_far

-- a batch around lines
batch_put : (old one two new : List ℕ) (lines : List Line) → one ≡ old ++ codes "begin\n" → two ≡ one ++ text_of_lines lines → new ≡ two ++ codes "commit\n"
    → new ≡ old ++ text_of_lines (Begin ∷ lines ++ Commit ∷ [])
batch_put old one two new lines is is' is'' =
    is'' ∙ ap (λ l. l ++ codes "commit\n") (is' ∙ ap (λ l. l ++ text_of_lines lines) is)
    ∙ append_assoc (old ++ codes "begin\n") (text_of_lines lines) (codes "commit\n")
    ∙ append_assoc old (codes "begin\n") (text_of_lines lines ++ codes "commit\n")
    ∙ ap (λ l. old ++ (codes "begin\n" ++ l)) (sym (text-append lines (Commit ∷ [])))

pub batch_written : (lines : ℕ → ℕ → List Line) (leaves : ℕ → ℕ → ℕ) (old one two new : List ℕ) (start first count state : ℕ) → one ≡ old ++ codes "begin\n"
    → WrittenSoFar lines leaves one start first count two state → new ≡ two ++ codes "commit\n"
    → new ≡ old ++ text_of_lines (Begin ∷ lines_in_turn lines leaves start first count ++ Commit ∷ [])
batch_written lines leaves old one two new start first count state is written is' = batch_put old one two new (lines_in_turn lines leaves start first count) is written.text_is is'
