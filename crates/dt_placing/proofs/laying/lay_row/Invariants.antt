use Rattle.std.proofs.Common.{◌-◌, get_or}
use Rattle.dt_pages.specs.Image.{look_up}
use Rattle.dt_pages.specs.Draft.{laid_over}
use Rattle.dt_placing.specs.Placing.{cell_at}
use Rattle.dt_placing.specs.Turn.{Laid, is_in_row}
use Rattle.dt_placing.proofs.laying.lay_row.Given as goal

abbrev pub invariant-loop-class : goal.invariant-loop-class
invariant-loop-class l = Laid (cell_at l.geometry (l.word - 1)) (is_in_row l.row) (λ class. get_or l.row class 0) l.class
    (laid_over l.initial.draft (look_up l.tree)) (laid_over l.draft (look_up l.tree))
