use Rattle.std.proofs.Common.{refl}
use Rattle.dt_propagate.proofs.SizeBounds.{kept_sizes, few_cells, few_rows}
use Rattle.dt_propagate.proofs.what_changes.changes_counted.Goals as goal

pub returns-in_default-kept-2-clause-full : goal.returns-in_default-kept-2-clause-full
returns-in_default-kept-2-clause-full g c =
    let are = c.bound-bound.ensures c.in-Ok.ensures c.requires.sizes in
    record {
      few_cells = few_cells c.args.new.now c.in-Some.cells c.in-Some.ensures.few (c.in-Some.ensures.size are.few_cells);
      more_rows = c.in_default-kept-2.ensures.full refl;
    }

pub returns-clause-sizes : goal.returns-clause-sizes
returns-clause-sizes g c =
    kept_sizes c.args.new.now c.bound-bound.result (c.bound-bound.ensures c.in-Ok.ensures c.requires.sizes)
    (record { cells = c.in-Some.cells; rows = c.in-Some-kept.rows }) c.in-Some.ensures.size c.in-Some-kept.ensures.size

pub returns-clause-within : goal.returns-clause-within
returns-clause-within g c =
    let are = c.bound-bound.ensures c.in-Ok.ensures c.requires.sizes in
    record {
      few_cells = few_cells c.args.new.now c.in-Some.cells c.in-Some.ensures.few (c.in-Some.ensures.size are.few_cells);
      few_rows = few_rows c.args.new.now c.in-Some-kept.rows c.in-Some-kept.ensures.few (c.in-Some-kept.ensures.size are.few_rows);
    }
