use Rattle.std.proofs.Common.{rules, ◌≡◌, true}
use Rattle.dt_words.specs.Number.{is_number}
use Rattle.dt_words.proofs.Digits.{is_read}
use Rattle.dt_words.proofs.number.number_in.Goals as goal

pub returns-in-Err : goal.returns-in-Err
returns-in-Err c =
    let is : is_number c.args.text.now ≡ true = search rules in
    absurd (c.in-Err.ensures.value.0 (is_read c.args.text.now is))
