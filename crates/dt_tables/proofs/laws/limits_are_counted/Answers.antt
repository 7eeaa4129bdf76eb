use Rattle.dt_tables.proofs.Listed.{cells_are_counted, rows_are_counted}
use Rattle.dt_tables.proofs.laws.limits_are_counted.Goals as goal

pub returns : goal.returns
returns c = record { cells = cells_are_counted; rows = rows_are_counted }
