use Rattle.dt_cells.proofs.Serving.{cells_after}
use Rattle.dt_cells.proofs.laws.cells_follow.Goals as goal

pub returns : goal.returns
returns c = cells_after c.law_of_cells.ensures.understood
