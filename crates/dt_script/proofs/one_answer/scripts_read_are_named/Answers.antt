use Rattle.dt_script.specs.LawfulBookExamples.{no_names_are_lawful}
use Rattle.dt_script.proofs.LawfulBooks.{NamesLaw}
use Rattle.dt_script.proofs.LineLaws.{stays_lawful, one_meaning}
use Rattle.dt_script.proofs.NamedScript.{script_is_named}
use Rattle.dt_script.proofs.NamedCalls.{script_has_named_calls, named_lines_are_spelled}
use Rattle.dt_script.proofs.OneAnswer.{read_has_lawful_book}
use Rattle.dt_script.proofs.one_answer.scripts_read_are_named.Goals as goal

pub returns : goal.returns
returns c =
    let names = c.names_keep_their_numbers.ensures in
    let law : NamesLaw = record { stay = names.stay; new = names.new; known = names.known } in
    record {
      names = script_is_named;
      calls = script_has_named_calls;
      book = read_has_lawful_book (one_meaning law) (stays_lawful law) no_names_are_lawful;
      spelled = named_lines_are_spelled;
    }
