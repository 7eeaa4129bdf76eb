use Rattle.std.proofs.Common.{false}
use Rattle.dt_pages.specs.Image.{look_up}
use Rattle.dt_placing.specs.Turn.{number_at, is_own}
use Rattle.dt_placing.proofs.Loops.{CellsSoFar}
use Rattle.dt_placing.proofs.laying.free_row.Given as goal

abbrev pub invariant-loop-class : goal.invariant-loop-class
invariant-loop-class l = CellsSoFar l.geometry l.initial.cells l.cells (number_at l.geometry l.before) (is_own l.geometry (look_up l.tree) l.selector l.before) false l.class
