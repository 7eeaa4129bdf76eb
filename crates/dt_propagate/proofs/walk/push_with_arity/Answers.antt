use Rattle.std.proofs.Common.{sym, ap, ◌∙◌, ◌++◌, append-nil, arith}
use Rattle.dt_propagate.proofs.Counted.{counts_none}
use Rattle.dt_propagate.proofs.Cover.{goes_through_all, goes_through_own}
use Rattle.dt_propagate.proofs.Touching.{none_of_arity}
use Rattle.dt_propagate.proofs.walk.push_with_arity.Goals as goal

pub push_after-requires-clause-all : goal.push_after-requires-clause-all
push_after-requires-clause-all g c =
    let own = c.requires.own in
    goes_through_own c.args.old.now c.args.new.now c.args.selector own.all c.args.keys.now c.nears-nears.result own.own_is
    (goes_through_all c.args.old.now c.args.new.now c.args.selector own.all c.args.moved.now own.differ
    c.nears-nears.result c.nears-nears.ensures.four (c.nears-nears.ensures.tell own.all own.differ))

pub returns-then-not-takes-2 : goal.returns-then-not-takes-2
returns-then-not-takes-2 g c =
    let none = none_of_arity c.args.old.now c.args.new.now c.args.selector c.args.arity c.requires.own.differ.old_lawful c.requires.own.differ.new_lawful
    (sym c.takes.ensures ∙ c.if-not-takes.true) (sym c.takes-then-not-takes.ensures ∙ c.if-not-takes-2.true) in
    record { grows = omega arith; counted = counts_none c.args.steps.now c.args.out.now.counted c.law.ensures; told = sym (ap (λ xs. c.args.out.now.changes.items ++ xs) none ∙ append-nil c.args.out.now.changes.items) }
