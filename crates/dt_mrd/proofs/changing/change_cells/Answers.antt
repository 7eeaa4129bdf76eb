use Rattle.std.proofs.Common.{sym, ◌∙◌}
use Rattle.std.specs.Ordering.{nat_cmp}
use Rattle.std.specs.BTreeMap as tree
use Rattle.dt_mrd.proofs.CellMaps.{changes_step}
use Rattle.dt_mrd.proofs.changing.change_cells.Goals as goal

pub loop-change-preserved : goal.loop-change-preserved
loop-change-preserved c = λ other.
    changes_step (tree.get nat_cmp c.loop-change.cells) (tree.get nat_cmp c.change_cell.new.cells) c.args.depth c.args.changes.now c.loop-change.change-index c.change-item.result
    c.loop-change-test.true (sym c.change-item.is) c.in_ok-change_cell.ensures other
    ∙ c.loop-change.invariant other
