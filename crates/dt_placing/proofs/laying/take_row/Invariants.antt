use Rattle.std.proofs.Common.{true}
use Rattle.dt_placing.specs.Turn.{number_at, is_in_row}
use Rattle.dt_placing.proofs.Loops.{CellsSoFar}
use Rattle.dt_placing.proofs.laying.take_row.Given as goal

abbrev pub invariant-loop-class : goal.invariant-loop-class
invariant-loop-class l = CellsSoFar l.geometry l.initial.cells l.cells (number_at l.geometry l.word) (is_in_row l.row) true l.class
