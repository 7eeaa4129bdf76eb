use Rattle.std.proofs.Common.{ℕ, ◌+◌, ◌*◌, take, true, option_copied, ◌&&◌}
use Rattle.slab.specs.Slab.{get}
use Rattle.dt_pages.specs.Image.{look_up}
use Rattle.dt_pages.specs.Draft.{laid_over}
use Rattle.dt_placing.specs.Turn.{Laid}
use Rattle.dt_mrd.specs.Reading.{cell_at}
use Rattle.dt_mrd.specs.Kept.{next_in, code_in}
use Rattle.dt_mrd.specs.Laying.{is_among}
use Rattle.dt_mrd.proofs.laying.lay_cells.Given as goal

abbrev pub invariant-loop-class : goal.invariant-loop-class
invariant-loop-class l = Laid (cell_at l.tag) (λ (class : ℕ). is_among (take l.class-index l.indexes) class && true)
    (λ class. l.tag * 4294967296 + code_in (get l.rows) (next_in (option_copied l.row) class)) 2048
    (laid_over l.initial.draft (look_up l.tree)) (laid_over l.draft (look_up l.tree))
