use Rattle.std.proofs.Common.{ℕ, take, false, option_copied, ◌&&◌}
use Rattle.dt_mrd.specs.Laying.{is_among, is_met, number_at}
use Rattle.dt_mrd.proofs.Loops.{CellsSoFar}
use Rattle.dt_mrd.proofs.laying.free_cells.Given as goal

abbrev pub invariant-loop-class : goal.invariant-loop-class
invariant-loop-class l = CellsSoFar l.initial.cells l.cells (number_at l.tag)
    (λ (class : ℕ). is_among (take l.class-index l.indexes) class && is_met l.stays (option_copied l.other) class) false
