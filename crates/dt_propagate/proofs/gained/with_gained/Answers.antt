use Rattle.std.proofs.Common.{◌+◌, ◌≤◌, rules, sym, ap, ◌∙◌, arith}
use Rattle.dt_graph.specs.declared.limits.TheConstants.{CLASSES}
use Rattle.dt_graph.proofs.AscendingSets.{first_bounds}
use Rattle.dt_propagate.specs.Bounds.{cells_gained, rows_gained}
use Rattle.dt_propagate.specs.Counted.{greatest}
use Rattle.dt_propagate.proofs.WalkedSets.{sum_begun, sum_more, sum_all}
use Rattle.dt_propagate.proofs.gained.with_gained.Goals as goal

pub loop-class-init : goal.loop-class-init
loop-class-init c =
    let cells = sum_begun (cells_gained c.args.old.now c.args.new.now) c.args.classes.now in
    let rows = sum_begun (rows_gained c.args.old.now c.args.new.now) c.args.classes.now in
    let few_cells : c.args.sizes.cells ≤ greatest = search rules in
    let few_rows : c.args.sizes.rows ≤ greatest = search rules in
    record {
      low = omega arith;
      cells = omega (arith, cells, few_cells);
      rows = omega (arith, rows, few_rows);
    }

pub loop-class-preserved : goal.loop-class-preserved
loop-class-preserved c =
    let classes = c.args.classes.now in
    let found = sym c.first_from.ensures ∙ c.in-Some.is in
    let bounds = first_bounds classes c.loop-class.least c.in-Some.class CLASSES c.law.ensures.ascend c.law.ensures.in_range found in
    let next = ap (λ m. m + 1) c.number.ensures.value in
    let more_cells = sum_more (cells_gained c.args.old.now c.args.new.now) classes c.loop-class.least c.in-Some.class (c.number.result + 1) c.law.ensures.ascend found next in
    let more_rows = sum_more (rows_gained c.args.old.now c.args.new.now) classes c.loop-class.least c.in-Some.class (c.number.result + 1) c.law.ensures.ascend found next in
    record {
      low = omega (arith, c.number.ensures.value, bounds.1);
      cells = omega (arith, c.with_naming-total.ensures.cells, more_cells, c.loop-class.invariant.cells);
      rows = omega (arith, c.with_naming-total.ensures.rows, more_rows, c.loop-class.invariant.rows);
    }

pub loop-class-smaller : goal.loop-class-smaller
loop-class-smaller c =
    let found = sym c.first_from.ensures ∙ c.in-Some.is in
    let bounds = first_bounds c.args.classes.now c.loop-class.least c.in-Some.class CLASSES c.law.ensures.ascend c.law.ensures.in_range found in
    omega (arith, c.number.ensures.value, bounds.0, bounds.1)

pub returns : goal.returns
returns c =
    let none = sym c.first_from.ensures ∙ c.in_default.is in
    let cells = sum_all (cells_gained c.args.old.now c.args.new.now) c.args.classes.now c.loop-class.least none in
    let rows = sum_all (rows_gained c.args.old.now c.args.new.now) c.args.classes.now c.loop-class.least none in
    record {
      cells = omega (arith, cells, c.loop-class.invariant.cells);
      rows = omega (arith, rows, c.loop-class.invariant.rows);
    }
