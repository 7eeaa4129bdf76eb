use Rattle.dt_propagate.proofs.Counts.{understood_is_held, rows_are_begun, parts_are_no_longer}
use Rattle.dt_propagate.proofs.laws.understood_is_held.Goals as goal

pub returns : goal.returns
returns c = record {
  understood = understood_is_held;
  rows = rows_are_begun;
  parts = parts_are_no_longer;
}
