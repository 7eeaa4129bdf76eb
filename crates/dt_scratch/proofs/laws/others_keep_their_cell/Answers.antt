use Rattle.dt_scratch.proofs.OtherCells.{others_keep_their_cell}
use Rattle.dt_scratch.proofs.laws.others_keep_their_cell.Goals as goal

pub returns : goal.returns
returns c = others_keep_their_cell
