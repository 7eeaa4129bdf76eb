use Rattle.std.proofs.Common.{◌<◌, length, ap, sym, ◌∙◌, arith}
use Rattle.dt_selectors.specs.Rows.{selectors_from}
use Rattle.dt_selectors.specs.Selectors.{insert_selector}
use Rattle.dt_selectors.proofs.Rows.{insert-row}
use Rattle.dt_selectors.proofs.selectors.Selectors.add.Goals as goal

pub returns-clause-ok : goal.returns-clause-ok
returns-clause-ok c =
    let within : c.from.result < length c.self.inside.rows.items =
    omega (arith, c.from.ensures, c.number-2.ensures.in_range, c.self.invariant.0) in
    sym (insert-row c.self.inside.rows.items c.from.result c.args.arity within)
    ∙ ap (λ n. insert_selector (record { number = n; arity = c.args.arity }) (selectors_from 0 c.self.inside.rows.items))
    (c.from.ensures ∙ c.number-2.ensures.value)
    ∙ ap (insert_selector (record { number = c.args.selector; arity = c.args.arity })) c.self.view_is
