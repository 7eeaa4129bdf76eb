use Rattle.std.proofs.Common.{sym, ◌∙◌, arith}
use Rattle.dt_definitions.proofs.DefinitionChanges.{body_from_rows}
use Rattle.dt_definitions.proofs.all_definitions.AllDefinitions.body.Goals as goal

pub returns : goal.returns
returns c =
    c.body.ensures ∙ rw (← c.self.view_is)
    (body_from_rows c.self.inside.rows.items c.number.result c.args.selector c.args.classes.now c.index.result.now
    (sym c.number.ensures.value) (omega (arith, c.self.invariant.all_selectors, c.number.ensures.in_range)) c.index.ensures)
