use Rattle.std.proofs.Common.{arith, ◌<◌, ◌^◌, rules}
use Rattle.dt_fit.proofs.WordBits.{window_of_one, window_of_two}
use Rattle.dt_fit.proofs.bits.window.Goals as goal

pub returns-then-shift-eq0 : goal.returns-then-shift-eq0
returns-then-shift-eq0 c = λ j small.
    window_of_one c.args.words.now c.args.bit c.word_at.result j c.word_at.ensures (omega (arith, c.if-shift-eq0.true)) small

pub returns : goal.returns
returns c = λ j small.
    let fits : c.word_at.result < 2 ^ 64 = search rules in
    window_of_two c.args.words.now c.args.bit c.word_at.result c.word_at-2.result j c.word_at.ensures c.word_at-2.ensures fits (omega (arith, c.if-shift-eq0.false)) small
