use Rattle.dt_scratch.proofs.Cells.{only_answers_are_in_cells, understood_cells, cells_are_answers}
use Rattle.dt_scratch.proofs.laws.law_of_cells.Goals as goal

pub returns : goal.returns
returns c = record {
  answered = only_answers_are_in_cells;
  understood = understood_cells;
  answers = cells_are_answers;
}
