use Rattle.dt_script.specs.LawfulBookExamples.{no_names_are_lawful}
use Rattle.dt_script.proofs.LawfulBooks.{NamesLaw}
use Rattle.dt_script.proofs.LineLaws.{read_as_written, stays_lawful}
use Rattle.dt_script.proofs.laws.written_lines_are_read_again.Goals as goal

pub returns : goal.returns
returns c =
    let names = c.names_keep_their_numbers.ensures in
    let law : NamesLaw = record { stay = names.stay; new = names.new; known = names.known } in
    record { again = read_as_written law; empty = no_names_are_lawful; lawful = stays_lawful law }
