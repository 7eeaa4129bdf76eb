use Rattle.std.proofs.Common.{◌==◌, ◌∙◌, not, filter, ap}
use Rattle.dt_graph.specs.declared.class_rows.Row.{Row}
use Rattle.dt_graph.proofs.GraphChanges.{IsRowOf, row_at, unlinked, unlinked_lawful}
use Rattle.dt_graph.proofs.class_rows.ClassRows.remove_link.Goals as goal

at : (c : goal.After-self-1) → IsRowOf c.args.self.now c.self.inside.rows.items c.number.result c.args.class
at c = row_at c.args.self.now c.self.inside.rows.items c.number.result c.args.class c.self.view_is c.self.invariant c.number.ensures.value c.number.ensures.in_range

after : goal.After-self-1 → Row
after c = record { is_live = c.index_mut-row.result.now.is_live; parents = c.without-row.result }

pub invariant_of-self : goal.invariant_of-self
unfolding after
invariant_of-self c =
    let read = c.index_mut-row.ensures.value in
    unlinked_lawful c.args.self.now c.self.inside.rows.items c.number.result c.args.class c.args.parent (after c) c.index_mut-row.result.now (at c) c.self.invariant
    (ap (λ (r : Row). r.is_live) read)
    (c.without-row.ensures ∙ ap (λ (r : Row). filter (λ p. not (p == c.args.parent)) r.parents.items) read)

pub returns : goal.returns
unfolding after
returns c =
    let read = c.index_mut-row.ensures.value in
    unlinked c.args.self.now c.self.inside.rows.items c.number.result c.args.class c.args.parent (after c) c.index_mut-row.result.now (at c)
    (ap (λ (r : Row). r.is_live) read)
    (c.without-row.ensures ∙ ap (λ (r : Row). filter (λ p. not (p == c.args.parent)) r.parents.items) read)
