use Rattle.std.proofs.Common.{refl}
use Rattle.dt_script.proofs.WrittenTexts.{class_texts}
use Rattle.dt_script.proofs.written.class_line.Goals as goal

pub returns-in-Some-parents : goal.returns-in-Some-parents
returns-in-Some-parents c =
    let first = rw c.in-Some.is at c.cut_word.ensures in
    let second = rw c.in-Some-parents.is at c.cut_word-2.ensures in
    let less = c.is_word-below.ensures.0 c.if-below.true in
    (class_texts c.args.rest.now _ _ c.in-Some.rest.now c.in-Some-parents.parents.now first second less, refl)
