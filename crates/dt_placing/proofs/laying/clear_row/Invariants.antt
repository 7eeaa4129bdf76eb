use Rattle.std.proofs.Common.{◌-◌}
use Rattle.dt_pages.specs.Image.{look_up}
use Rattle.dt_pages.specs.Draft.{laid_over}
use Rattle.dt_placing.specs.Placing.{cell_at}
use Rattle.dt_placing.specs.Turn.{Laid, is_cleared}
use Rattle.dt_placing.proofs.laying.clear_row.Given as goal

abbrev pub invariant-loop-class : goal.invariant-loop-class
invariant-loop-class l = Laid (cell_at l.geometry (l.before - 1)) (is_cleared l.geometry (look_up l.tree) l.selector l.before l.word l.row) (λ class. 0) l.class
    (laid_over l.initial.draft (look_up l.tree)) (laid_over l.draft (look_up l.tree))
