use Rattle.std.proofs.Common.{sym, ◌∙◌}
use Rattle.std.specs.Ordering.{nat_cmp}
use Rattle.std.specs.BTreeMap as tree
use Rattle.dt_mrd.proofs.CellMaps.{turns_step}
use Rattle.dt_mrd.proofs.changing.lead_cells.Goals as goal

pub loop-turn-preserved : goal.loop-turn-preserved
loop-turn-preserved c = λ other.
    turns_step (tree.get nat_cmp c.loop-turn.cells) (tree.get nat_cmp c.lead_cell.new.cells) c.args.depth c.args.led.now c.loop-turn.turn-index c.turn-item.result
    c.loop-turn-test.true (sym c.turn-item.is) c.in_ok-lead_cell.ensures other
    ∙ c.loop-turn.invariant other
