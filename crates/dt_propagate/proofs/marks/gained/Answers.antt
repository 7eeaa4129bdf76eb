use Rattle.std.proofs.Common.{sym, ap, ◌∙◌, ◌+◌, false, arith}
use Rattle.dt_graph.specs.Graph.{has_number}
use Rattle.dt_graph.specs.declared.limits.TheConstants.{CLASSES}
use Rattle.dt_graph.proofs.AscendingSets.{first_bounds}
use Rattle.dt_propagate.specs.Bounds.{is_gained}
use Rattle.dt_propagate.proofs.WalkedSets.{any_begun, any_more, any_all}
use Rattle.dt_propagate.proofs.marks.gained.Goals as goal

pub loop-class-init : goal.loop-class-init
loop-class-init c = record {
  low = omega arith;
  gone = λ n. ap (λ ns. has_number ns n) c.new-gained.ensures ∙ any_begun (λ class. is_gained c.args.old.now.links c.args.new.now.links class n) c.args.lows.now (false);
}

pub loop-class-preserved : goal.loop-class-preserved
loop-class-preserved c =
    let found = sym c.first_from.ensures ∙ c.in-Some.is in
    let bounds = first_bounds c.args.lows.now c.loop-class.least c.in-Some.class CLASSES c.law.ensures.ascend c.law.ensures.in_range found in
    record {
      low = omega (arith, c.number.ensures.value, bounds.1);
      gone = λ n. any_more (λ class. is_gained c.args.old.now.links c.args.new.now.links class n) c.args.lows.now c.loop-class.least c.in-Some.class (c.number.result + 1) (false)
          (has_number c.loop-class.gained n) (has_number c.insert_gained.new.gained n) c.law.ensures.ascend found (ap (λ m. m + 1) c.number.ensures.value)
          (c.loop-class.invariant.gone n) (c.insert_gained.ensures n);
    }

pub loop-class-smaller : goal.loop-class-smaller
loop-class-smaller c =
    let found = sym c.first_from.ensures ∙ c.in-Some.is in
    let bounds = first_bounds c.args.lows.now c.loop-class.least c.in-Some.class CLASSES c.law.ensures.ascend c.law.ensures.in_range found in
    omega (arith, c.number.ensures.value, bounds.0, bounds.1)

pub returns : goal.returns
returns c n = any_all (λ class. is_gained c.args.old.now.links c.args.new.now.links class n) c.args.lows.now c.loop-class.least (false) (has_number c.loop-class.gained n)
    (sym c.first_from.ensures ∙ c.in_default.is) (c.loop-class.invariant.gone n)
