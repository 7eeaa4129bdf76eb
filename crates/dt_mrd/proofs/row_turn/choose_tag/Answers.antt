use Rattle.dt_fit.specs.Cells.{is_tried}
use Rattle.dt_mrd.proofs.row_turn.choose_tag.Goals as goal

pub returns-clause-chosen : goal.returns-clause-chosen
returns-clause-chosen c = record {
  freed = is_tried c.free_cells.new.cells;
  frees = c.in_ok-free_cells.ensures.tried;
  chosen = c.in_ok-tag.ensures.chosen;
  takes = c.in_ok-take_cells.ensures.tried;
  has = c.in_ok-tag.ensures.has;
}
