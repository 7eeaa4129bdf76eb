use Rattle.dt_propagate.proofs.SizeBounds.{sizes_grow}
use Rattle.dt_propagate.proofs.bound.bound.Goals as goal

pub returns : goal.returns
returns c near are =
    let old = c.args.old.now in
    let new = c.args.new.now in
    let site = c.args.site.now in
    let made_cells = rw c.deref.ensures.value at c.with_keys-sizes.ensures.cells in
    let made_rows = rw c.deref.ensures.value at c.with_keys-sizes.ensures.rows in
    sizes_grow old new site.keys.items site.edited c.gained-gained.result near (rw (c.graph.ensures, c.graph-2.ensures) at c.gained-gained.ensures)
    c.args.sizes c.with_keys-sizes.result c.with_gained.result are made_cells made_rows c.with_gained.ensures.cells c.with_gained.ensures.rows
