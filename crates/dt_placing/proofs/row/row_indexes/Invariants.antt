use Rattle.std.proofs.Common.{◌≡◌}
use Rattle.dt_placing.specs.Turn.{used_in_row}
use Rattle.dt_placing.proofs.row.row_indexes.Given as goal

abbrev pub invariant-loop-class : goal.invariant-loop-class
invariant-loop-class l = l.indexes.items ≡ used_in_row l.row l.class
