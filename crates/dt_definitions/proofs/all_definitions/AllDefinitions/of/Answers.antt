use Rattle.std.proofs.Common.{arith}
use Rattle.dt_definitions.proofs.Lists.{of_row}
use Rattle.dt_definitions.proofs.all_definitions.AllDefinitions.of.Goals as goal

pub returns : goal.returns
returns c =
    rw (c.as_slice.ensures, ← c.self.view_is)
    (of_row c.self.inside.rows.items 0 c.number.result c.args.selector c.index.result.now
    (omega (arith, c.number.ensures.value)) (omega (arith, c.self.invariant.all_selectors, c.number.ensures.in_range)) c.index.ensures)
