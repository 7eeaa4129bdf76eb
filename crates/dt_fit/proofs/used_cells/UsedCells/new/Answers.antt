use Rattle.std.proofs.Common.{ap, ◌∙◌}
use Rattle.dt_fit.specs.Cells.{is_used}
use Rattle.dt_fit.specs.Undoing.{undone}
use Rattle.dt_fit.proofs.Cells.{none_used}
use Rattle.dt_fit.proofs.used_cells.UsedCells.new.Goals as goal

pub returns-clause-kept : goal.returns-clause-kept
returns-clause-kept c = λ cell.
    ap (λ journal. is_used c.args.geometry (undone journal c.new.result.items) cell) c.new-2.ensures.items
    ∙ ap (λ words. is_used c.args.geometry words cell) c.new.ensures.items
    ∙ none_used c.args.geometry cell

pub returns-clause-tried : goal.returns-clause-tried
returns-clause-tried c = λ cell.
    ap (λ words. is_used c.args.geometry words cell) c.new.ensures.items ∙ none_used c.args.geometry cell
