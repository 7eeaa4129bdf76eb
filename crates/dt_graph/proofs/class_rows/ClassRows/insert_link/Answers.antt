use Rattle.std.proofs.Common.{◌∙◌, ◌<◌, length, ap, arith}
use Rattle.dt_graph.specs.Graph.{insert_number}
use Rattle.dt_graph.specs.declared.class_rows.Row.{Row}
use Rattle.dt_graph.proofs.ParentLists.{parent_count_listed}
use Rattle.dt_graph.proofs.Rows.{parents_of-read}
use Rattle.dt_graph.proofs.LawfulChanges.{may_be_linked}
use Rattle.dt_graph.proofs.GraphChanges.{IsRowOf, row_at, linked, linked_lawful}
use Rattle.dt_graph.proofs.class_rows.ClassRows.insert_link.Goals as goal

pub insert-requires : goal.insert-requires
insert-requires c =
    let inside : c.number.result < length c.self.inside.rows.items = omega (arith, c.self.invariant.count, c.number.ensures.in_range) in
    let listed = parents_of-read c.args.self.now c.self.inside.rows.items c.index_mut-row.result.now c.number.result c.args.class c.self.view_is c.number.ensures.value inside c.index_mut-row.ensures.value in
    let may = may_be_linked c.args.self.now c.args.class c.args.parent c.requires in
    omega (arith, ap length listed, parent_count_listed c.args.self.now.links c.args.class, may.room)

at : (c : goal.After-self-1) → IsRowOf c.args.self.now c.self.inside.rows.items c.number.result c.args.class
at c = row_at c.args.self.now c.self.inside.rows.items c.number.result c.args.class c.self.view_is c.self.invariant c.number.ensures.value c.number.ensures.in_range

after : goal.After-self-1 → Row
after c = record { is_live = c.index_mut-row.result.now.is_live; parents = c.insert.new.parents }

pub invariant_of-self : goal.invariant_of-self
unfolding after
invariant_of-self c =
    let read = c.index_mut-row.ensures.value in
    linked_lawful c.args.self.now c.self.inside.rows.items c.number.result c.args.class c.args.parent (after c) c.index_mut-row.result.now (at c) c.self.invariant c.requires
    (ap (λ (r : Row). r.is_live) read)
    (c.insert.ensures ∙ ap (λ (r : Row). insert_number c.args.parent r.parents.items) read)

pub returns : goal.returns
unfolding after
returns c =
    let read = c.index_mut-row.ensures.value in
    linked c.args.self.now c.self.inside.rows.items c.number.result c.args.class c.args.parent (after c) c.index_mut-row.result.now (at c)
    (ap (λ (r : Row). r.is_live) read)
    (c.insert.ensures ∙ ap (λ (r : Row). insert_number c.args.parent r.parents.items) read)
