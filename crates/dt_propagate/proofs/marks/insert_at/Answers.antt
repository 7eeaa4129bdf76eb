use Rattle.std.proofs.Common.{◌==◌, ◌||◌, sym, ap, ◌∙◌}
use Rattle.dt_graph.specs.Graph.{has_number}
use Rattle.dt_propagate.specs.Marks.{has_at}
use Rattle.dt_propagate.proofs.MarkSteps.{at_some, at_none, or_turned, or_nothing}
use Rattle.dt_propagate.proofs.marks.insert_at.Goals as goal

pub returns-in-Some : goal.returns-in-Some
returns-in-Some c n =
    let h = c.in-Some.ensures.lookup in
    let at = at_some c.args.classes.now c.args.position c.in-Some.class.now n h.3.0 h.1 in
    c.insert.ensures.members n ∙ or_turned (c.in-Some.class.now == n) (has_number c.args.named.now n)
    ∙ ap (λ b. has_number c.args.named.now n || b) (sym at)

pub returns-in_default : goal.returns-in_default
returns-in_default c n =
    or_nothing (has_number c.args.named.now n) (has_at c.args.classes.now c.args.position n)
    (at_none c.args.classes.now c.args.position n c.in_default.ensures.lookup.3)
