use Rattle.std.proofs.Common.{◌+◌, List, ℕ, drop, get_or, refl, sym, ap, ◌∙◌, arith}
use Rattle.dt_placing.specs.declared.staged.StagedWord.{StagedWord}
use Rattle.dt_placing.specs.Placing.{with_words}
use Rattle.dt_placing.proofs.Putting.{put_step, put_all}
use Rattle.dt_placing.proofs.places.put_words.Goals as goal

pub loop-word-preserved : goal.loop-word-preserved
loop-word-preserved c =
    let none : StagedWord = record { selector = 0; word = 0 } in
    record {
      count = c.put_word.ensures.count;
      words = ap (λ (l : List ℕ). with_words (drop (c.loop-word.word-index + 1) c.args.staged.now) l) c.put_word.ensures.words
          ∙ put_step c.args.staged.now c.loop-word.word-index none (get_or c.args.staged.now c.loop-word.word-index none) c.loop-word.words.items c.loop-word-test.true refl
          ∙ c.loop-word.invariant.words;
    }

pub returns-clause-words : goal.returns-clause-words
returns-clause-words c = sym (put_all c.args.staged.now c.loop-word.word-index c.loop-word.words.items (omega arith)) ∙ c.loop-word.invariant.words
