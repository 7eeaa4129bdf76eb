use Rattle.std.proofs.Common.{◌<◌, length, ap, sym, ◌∙◌, arith}
use Rattle.dt_selectors.specs.Rows.{selectors_from}
use Rattle.dt_selectors.specs.Selectors.{arity_in}
use Rattle.dt_selectors.proofs.Rows.{arity-row}
use Rattle.dt_selectors.proofs.selectors.Selectors.arity.Goals as goal

pub returns-clause-value : goal.returns-clause-value
returns-clause-value c =
    let within : c.from-row.result < length c.self.inside.rows.items =
    omega (arith, c.from-row.ensures, c.number.ensures.in_range, c.self.invariant.0) in
    sym (arity-row c.self.inside.rows.items c.from-row.result c.index.result.now within c.index.ensures)
    ∙ ap (arity_in (selectors_from 0 c.self.inside.rows.items)) (c.from-row.ensures ∙ c.number.ensures.value)
    ∙ ap (λ selectors. arity_in selectors c.args.selector) c.self.view_is
