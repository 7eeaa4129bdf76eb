use Rattle.std.proofs.Common.{◌∙◌, sym, ap, Some, arith}
use Rattle.dt_graph.specs.Graph.{has_number}
use Rattle.dt_graph.specs.Ancestry.{row_has}
use Rattle.dt_graph.specs.declared.limits.TheConstants.{CLASSES}
use Rattle.dt_graph.proofs.AscendingSets.{first_bounds}
use Rattle.dt_graph.proofs.AncestryRows.{IsChangedTo-more, IsChangedTo-all, without_all, without_one_said}
use Rattle.dt_graph.proofs.counted_rows.remove_counted.Goals as goal

pub loop-place-preserved : goal.loop-place-preserved
loop-place-preserved c =
    let found = sym c.first_from.ensures ∙ c.in-Some.is ∙ ap (λ n. Some n) (sym c.number.ensures.value) in (
      omega (arith, c.number-in-Some.ensures.in_range),
      IsChangedTo-more (without_all c.args.classes.now) c.args.rows.now c.loop-place.rows c.args.places.now c.loop-place.least c.number.result c.number-in-Some.result
          c.index-rows-number.result c.remove_these.new.self c.law.ensures.ascend found (c.number-in-Some.ensures.value ∙ sym c.number.ensures.value)
          (omega (arith, c.requires, c.loop-place.invariant.1.count, c.number.ensures.in_range)) c.remove_these.ensures c.loop-place.invariant.1,
    )

pub loop-place-smaller : goal.loop-place-smaller
loop-place-smaller c =
    let bounds = first_bounds c.args.places.now c.loop-place.least c.in-Some.place CLASSES c.law.ensures.ascend c.law.ensures.in_range (sym c.first_from.ensures ∙ c.in-Some.is) in
    omega (arith, c.number-in-Some.ensures.value, bounds.0, bounds.1)

pub returns-clause-rows : goal.returns-clause-rows
returns-clause-rows c = λ k n.
    IsChangedTo-all (without_all c.args.classes.now) c.args.rows.now c.loop-place.rows c.args.places.now c.loop-place.least
    (sym c.first_from.ensures ∙ c.in_default.is) c.loop-place.invariant.1 k n
    ∙ without_one_said (has_number c.args.places.now k) (row_has c.args.rows.now k n) (has_number c.args.classes.now n)
