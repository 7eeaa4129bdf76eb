use Rattle.std.proofs.Common.{refl, true}
use Rattle.dt_graph.proofs.GraphChanges.{IsRowOf, row_at, inserted, inserted_lawful}
use Rattle.dt_graph.proofs.class_rows.ClassRows.insert.Goals as goal

at : (c : goal.After-self-1) → IsRowOf c.args.self.now c.self.inside.rows.items c.number.result c.args.class
at c = row_at c.args.self.now c.self.inside.rows.items c.number.result c.args.class c.self.view_is c.self.invariant c.number.ensures.value c.number.ensures.in_range

pub invariant_of-self : goal.invariant_of-self
invariant_of-self c =
    inserted_lawful c.args.self.now c.self.inside.rows.items c.number.result c.args.class c.args.parents.now (record { is_live = true; parents = c.in_order.result }) (at c) c.self.invariant c.requires refl c.in_order.ensures

pub returns : goal.returns
returns c =
    inserted c.args.self.now c.self.inside.rows.items c.number.result c.args.class c.args.parents.now (record { is_live = true; parents = c.in_order.result }) (at c) c.self.invariant c.requires refl c.in_order.ensures
