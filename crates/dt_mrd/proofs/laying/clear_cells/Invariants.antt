use Rattle.std.proofs.Common.{ℕ, take, option_copied, ◌&&◌}
use Rattle.dt_pages.specs.Image.{look_up}
use Rattle.dt_pages.specs.Draft.{laid_over}
use Rattle.dt_placing.specs.Turn.{Laid}
use Rattle.dt_mrd.specs.Reading.{cell_at}
use Rattle.dt_mrd.specs.Laying.{is_among, is_met}
use Rattle.dt_mrd.proofs.laying.clear_cells.Given as goal

abbrev pub invariant-loop-class : goal.invariant-loop-class
invariant-loop-class l = Laid (cell_at l.tag) (λ (class : ℕ). is_among (take l.class-index l.indexes) class && is_met l.stays (option_copied l.other) class) (λ class. 0) 2048
    (laid_over l.initial.draft (look_up l.tree)) (laid_over l.draft (look_up l.tree))
