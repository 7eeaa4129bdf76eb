use Rattle.std.proofs.Common.{sym, arith}
use Rattle.dt_selectors.proofs.Texts.{with_name-known, position_of-stored, position_of-within}
use Rattle.dt_selectors.proofs.names.Names.number.Goals as goal

pub returns-in-Some-clause-ok : goal.returns-in-Some-clause-ok
returns-in-Some-clause-ok c = sym (with_name-known c.args.self.now c.args.text.now c.in-Some.number (sym c.in-Some.ensures))

pub returns-in-Some-clause-stored : goal.returns-in-Some-clause-stored
returns-in-Some-clause-stored c = position_of-stored c.args.text.now c.args.self.now.texts c.in-Some.number (sym c.in-Some.ensures)

pub returns-in-Some-clause-in_range : goal.returns-in-Some-clause-in_range
returns-in-Some-clause-in_range c =
    omega (arith, position_of-within c.args.text.now c.args.self.now.texts c.in-Some.number (sym c.in-Some.ensures), c.law.ensures.lawful.few)

pub returns-in-Ok-clause-stored : goal.returns-in-Ok-clause-stored
returns-in-Ok-clause-stored c = position_of-stored c.args.text.now c.append.new.self.texts c.in-Ok.number c.in-Ok.ensures.place
