use Rattle.std.proofs.Common.{◌∷◌, ◌∙◌, [], sym, arith, length-append}
use Rattle.dt_graph.specs.declared.limits.TheConstants.{CLASSES}
use Rattle.dt_graph.proofs.AscendingSets.{first_bounds, from_on_all, IsWalked-more, IsWalked-all}
use Rattle.dt_graph.proofs.class_set.ClassSet.classes.Goals as goal

pub loop-class-init : goal.loop-class-init
loop-class-init c = (
  omega arith,
  rw c.new-classes.ensures (omega arith),
  rw c.new-classes.ensures (record { whole = from_on_all c.args.self.now }),
)

pub push-requires : goal.push-requires
push-requires c =
    let few = c.loop-class.invariant.1 in
    let bounds = first_bounds c.args.self.now c.loop-class.least c.in-Some.class CLASSES c.law.ensures.ascend c.law.ensures.in_range (sym c.first_from.ensures ∙ c.in-Some.is) in
    (omega arith, omega (arith, bounds.0, bounds.1))

pub loop-class-preserved : goal.loop-class-preserved
loop-class-preserved c =
    let few = c.loop-class.invariant.1 in
    let bounds = first_bounds c.args.self.now c.loop-class.least c.in-Some.class CLASSES c.law.ensures.ascend c.law.ensures.in_range (sym c.first_from.ensures ∙ c.in-Some.is) in (
      omega (arith, c.number.ensures.in_range),
      rw c.push.ensures.items (omega (arith, length-append c.loop-class.classes.items (c.in-Some.class ∷ []), c.number.ensures.value, bounds.0)),
      IsWalked-more c.args.self.now c.loop-class.classes.items c.push.new.self.items c.loop-class.least c.in-Some.class c.number.result
          c.law.ensures.ascend c.loop-class.invariant.2 (sym c.first_from.ensures ∙ c.in-Some.is) c.push.ensures.items c.number.ensures.value,
    )

pub loop-class-smaller : goal.loop-class-smaller
loop-class-smaller c =
    let bounds = first_bounds c.args.self.now c.loop-class.least c.in-Some.class CLASSES c.law.ensures.ascend c.law.ensures.in_range (sym c.first_from.ensures ∙ c.in-Some.is) in
    omega (arith, c.number.ensures.value, bounds.0, bounds.1)

pub returns : goal.returns
returns c = IsWalked-all c.args.self.now c.loop-class.classes.items c.loop-class.least c.loop-class.invariant.2 (sym c.first_from.ensures ∙ c.in_default.is)
