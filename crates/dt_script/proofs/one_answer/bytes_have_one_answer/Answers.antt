use Rattle.dt_script.specs.LawfulBookExamples.{no_names_are_lawful}
use Rattle.dt_script.proofs.LawfulBooks.{NamesLaw}
use Rattle.dt_script.proofs.LineLaws.{stays_lawful, one_meaning}
use Rattle.dt_script.proofs.OneAnswer.{one_script, one_fault, scripts_have_no_fault}
use Rattle.dt_script.proofs.one_answer.bytes_have_one_answer.Goals as goal

pub returns : goal.returns
returns c =
    let names = c.names_keep_their_numbers.ensures in
    let law : NamesLaw = record { stay = names.stay; new = names.new; known = names.known } in
    let meaning = one_meaning law in
    let lawful = stays_lawful law in
    let empty = no_names_are_lawful in
    record { script = one_script meaning lawful empty; fault = one_fault meaning lawful empty; either = scripts_have_no_fault meaning lawful empty }
