use Rattle.dt_script.proofs.LawfulBooks.{NamesLaw}
use Rattle.dt_script.proofs.GeneratedIsScript.{generated_is_script}
use Rattle.dt_script.proofs.GeneratedShort.{generated_is_short}
use Rattle.dt_script.proofs.generated_laws.generated_texts_are_scripts.Goals as goal

pub returns : goal.returns
returns c =
    let names = c.names_keep_their_numbers.ensures in
    let law : NamesLaw = record { stay = names.stay; new = names.new; known = names.known } in
    record { script = generated_is_script law; short = generated_is_short }
