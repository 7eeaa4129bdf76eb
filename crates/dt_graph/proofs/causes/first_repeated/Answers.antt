use Rattle.std.proofs.Common.{◌∙◌, sym}
use Rattle.dt_graph.proofs.Repeated.{repeated_here, repeated_later, none_repeated}
use Rattle.dt_graph.proofs.causes.first_repeated.Goals as goal

pub returns-then-contains : goal.returns-then-contains
returns-then-contains c =
    sym (repeated_here c.args.classes.now c.loop-i.i c.index-classes-i.result c.loop-i-test.true c.index-classes-i.is c.loop-i.invariant (sym c.contains.ensures.value ∙ c.if-contains.true))

pub loop-i-preserved : goal.loop-i-preserved
loop-i-preserved c =
    repeated_later c.args.classes.now c.loop-i.i c.index-classes-i.result c.loop-i-test.true c.index-classes-i.is c.loop-i.invariant (sym c.contains.ensures.value ∙ c.if-contains.false)

pub returns : goal.returns
returns c = sym (none_repeated c.args.classes.now c.loop-i.i c.loop-i-test.false c.loop-i.invariant)
