use Rattle.dt_script.proofs.OnlyAnswer.{answer_for, answer_told}
use Rattle.dt_script.proofs.script_read.read_script.Goals as goal

pub returns-clause-exact : goal.returns-clause-exact
returns-clause-exact g c = λ _.
    let law = c.bytes_have_one_answer.ensures in
    answer_told c.args.readers _ c.in-Ok.bytes.items c.script_of_bytes.result c.in-Ok.ensures.whole
    (answer_for law.script law.fault law.either c.args.readers c.in-Ok.bytes.items c.script_of_bytes.result
    (rw c.deref.ensures.value at c.script_of_bytes.ensures.script)
    (rw c.deref.ensures.value at c.script_of_bytes.ensures.fault))
