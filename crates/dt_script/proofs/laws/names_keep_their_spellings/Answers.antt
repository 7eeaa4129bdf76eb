use Rattle.dt_script.proofs.Grown.{grew_on, grows_by_line, spelling_stays}
use Rattle.dt_script.proofs.laws.names_keep_their_spellings.Goals as goal

pub returns : goal.returns
returns c = record { line = grows_by_line; on = grew_on; spelling = spelling_stays }
