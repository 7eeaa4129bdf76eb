use Rattle.std.proofs.Common.{◌∙◌}
use Rattle.dt_definitions.proofs.DefinitionChanges.{kept_same, kept_lists, same_definitions, same_length}
use Rattle.dt_definitions.proofs.all_definitions.AllDefinitions.copy.Goals as goal

pub invariant_of-result : goal.invariant_of-result
invariant_of-result c =
    let rows = c.self.inside.rows.items in
    let news = c.in_ok-rows.rows.items in
    kept_lists news c.self.inside.count c.self.inside.index c.in_ok-index.index
    (kept_same rows news c.self.inside.count c.self.inside.index c.self.invariant
    (same_length rows news c.in_ok-rows.ensures ∙ c.self.invariant.all_selectors)
    (same_definitions 0 rows news c.in_ok-rows.ensures)) c.in_ok-index.ensures

pub returns : goal.returns
returns c = rw (← c.self.view_is) (same_definitions 0 c.self.inside.rows.items c.in_ok-rows.rows.items c.in_ok-rows.ensures)
