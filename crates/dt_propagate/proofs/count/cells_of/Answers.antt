use Rattle.std.proofs.Common.{sym, ap, ◌∙◌, length}
use Rattle.dt_propagate.specs.Begun.{up_to}
use Rattle.dt_propagate.proofs.Totals.{cells_none, cells_some}
use Rattle.dt_propagate.proofs.count.cells_of.Goals as goal

pub returns-then-arity-eq0 : goal.returns-then-arity-eq0
returns-then-arity-eq0 c =
    let none = cells_none c.args.program.now c.law.ensures.lawful c.args.selector (sym c.arity_or_none-arity.ensures.value ∙ c.if-arity-eq0.true) in
    c.up_to.ensures ∙ ap (up_to c.args.most) (sym (ap length none))

pub returns : goal.returns
returns c =
    let some = cells_some c.args.program.now c.law.ensures.lawful c.args.selector c.arity_or_none-arity.result c.arity_or_none-arity.ensures.value c.if-arity-eq0.false in
    c.count_begun.ensures ∙ ap (up_to c.args.most) (sym (ap length some))
