use Rattle.std.proofs.Common.{◌==◌, ◌/◌, ◌%◌, ◌^◌, ◌∙◌, ap}
use Rattle.std.specs.Prelude.{bit_and}
use Rattle.dt_fit.proofs.WordBits.{bit_read}
use Rattle.dt_fit.proofs.bits.is_set.Goals as goal

pub returns : goal.returns
returns c =
    ap (λ word. bit_and (word / 2 ^ (c.args.bit % 64)) 1 == 1) c.word_at.ensures ∙ bit_read c.args.words.now c.args.bit
