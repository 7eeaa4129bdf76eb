use Rattle.std.proofs.Common.{sym, ap, ◌∙◌, ◌+◌, false, arith}
use Rattle.dt_graph.specs.Graph.{has_number}
use Rattle.dt_graph.specs.declared.limits.TheConstants.{CLASSES}
use Rattle.dt_graph.proofs.AscendingSets.{first_bounds}
use Rattle.dt_propagate.specs.Marks.{is_moved}
use Rattle.dt_propagate.proofs.WalkedSets.{any_begun, any_more, any_all}
use Rattle.dt_propagate.proofs.marks.changed.Goals as goal

pub loop-high-init : goal.loop-high-init
loop-high-init c = record {
  low = omega arith;
  gone = λ n. ap (λ ns. has_number ns n) c.new-changed.ensures ∙ any_begun (λ high. is_moved c.args.old.now.links c.args.new.now.links n high) c.args.highs.now (false);
}

pub loop-high-preserved : goal.loop-high-preserved
loop-high-preserved c =
    let found = sym c.first_from.ensures ∙ c.in-Some.is in
    let bounds = first_bounds c.args.highs.now c.loop-high.least c.in-Some.high CLASSES c.law.ensures.ascend c.law.ensures.in_range found in
    record {
      low = omega (arith, c.number.ensures.value, bounds.1);
      gone = λ n. any_more (λ high. is_moved c.args.old.now.links c.args.new.now.links n high) c.args.highs.now c.loop-high.least c.in-Some.high (c.number.result + 1) (false)
          (has_number c.loop-high.changed n) (has_number c.insert_changed.new.changed n) c.law.ensures.ascend found (ap (λ m. m + 1) c.number.ensures.value)
          (c.loop-high.invariant.gone n) (c.insert_changed.ensures n);
    }

pub loop-high-smaller : goal.loop-high-smaller
loop-high-smaller c =
    let found = sym c.first_from.ensures ∙ c.in-Some.is in
    let bounds = first_bounds c.args.highs.now c.loop-high.least c.in-Some.high CLASSES c.law.ensures.ascend c.law.ensures.in_range found in
    omega (arith, c.number.ensures.value, bounds.0, bounds.1)

pub returns : goal.returns
returns c n = any_all (λ high. is_moved c.args.old.now.links c.args.new.now.links n high) c.args.highs.now c.loop-high.least (false) (has_number c.loop-high.changed n)
    (sym c.first_from.ensures ∙ c.in_default.is) (c.loop-high.invariant.gone n)
