use Rattle.dt_graph.proofs.GraphChanges.{IsRowOf, row_at, dropped, dropped_lawful}
use Rattle.dt_graph.proofs.class_rows.ClassRows.remove.Goals as goal

at : (c : goal.After-self-1) → IsRowOf c.args.self.now c.self.inside.rows.items c.number.result c.args.class
at c = row_at c.args.self.now c.self.inside.rows.items c.number.result c.args.class c.self.view_is c.self.invariant c.number.ensures.value c.number.ensures.in_range

pub invariant_of-self : goal.invariant_of-self
invariant_of-self c =
    dropped_lawful c.args.self.now c.self.inside.rows.items c.number.result c.args.class c.empty.result (at c) c.self.invariant c.requires c.empty.ensures.not_live c.empty.ensures.no_parents

pub returns : goal.returns
returns c =
    dropped c.args.self.now c.self.inside.rows.items c.number.result c.args.class c.empty.result (at c) c.empty.ensures.not_live c.empty.ensures.no_parents
