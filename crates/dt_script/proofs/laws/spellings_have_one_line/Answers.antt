use Rattle.dt_script.proofs.LineLaws.{no_two_lines, one_meaning}
use Rattle.dt_script.proofs.laws.spellings_have_one_line.Goals as goal

pub returns : goal.returns
returns c =
    let names = c.names_keep_their_numbers.ensures in
    record { line = no_two_lines; meaning = one_meaning (record { stay = names.stay; new = names.new; known = names.known }) }
