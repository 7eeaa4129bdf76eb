use Rattle.std.proofs.Common.{ap, sym, ◌∙◌}
use Rattle.dt_selectors.specs.Rows.{selectors_from}
use Rattle.dt_selectors.specs.Selectors.{without_selector}
use Rattle.dt_selectors.proofs.Rows.{without-row}
use Rattle.dt_selectors.proofs.selectors.Selectors.drop_sel.Goals as goal

pub returns-clause-ok : goal.returns-clause-ok
returns-clause-ok c =
    sym (without-row c.self.inside.rows.items c.from.result)
    ∙ ap (without_selector (selectors_from 0 c.self.inside.rows.items)) (c.from.ensures ∙ c.number.ensures.value)
    ∙ ap (λ selectors. without_selector selectors c.args.selector) c.self.view_is
