use Rattle.std.proofs.Common.{◌≡◌, drop}
use Rattle.dt_pages.specs.Reading.{Reading}
use Rattle.dt_pages.specs.Draft.{laid_over}
use Rattle.dt_sti.proofs.Cells.{laid}
use Rattle.dt_sti.proofs.sti.StiTableKind.stage.Given as goal

abbrev pub invariant-loop-change : goal.invariant-loop-change
invariant-loop-change l = (base : Reading) → laid (drop l.change-index l.changes) (laid_over l.draft base) ≡ laid l.changes (laid_over l.initial.draft base)
