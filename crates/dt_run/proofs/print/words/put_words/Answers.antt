use Rattle.std.proofs.Common.{refl, ◌∷◌}
use Rattle.dt_run.specs.LogWord.{text_of_log_word}
use Rattle.dt_run.proofs.Putting.{turn, turn_stopped}
use Rattle.dt_run.proofs.print.words.put_words.Goals as goal

pub loop-word-preserved : goal.loop-word-preserved
loop-word-preserved g c = turn _ _ _ (λ word. 32 ∷ text_of_log_word word) c.args.words.now c.loop-word.word-index _ _ c.loop-word-test.true refl c.loop-word.invariant c.in_ok-put_word.ensures

pub returns-in_err-put_word : goal.returns-in_err-put_word
returns-in_err-put_word g c = turn_stopped _ _ _ _ (λ word. 32 ∷ text_of_log_word word) c.args.words.now c.loop-word.word-index _ _ c.from_residual.ensures.0 c.loop-word-test.true refl c.loop-word.invariant c.in_err-put_word.ensures
