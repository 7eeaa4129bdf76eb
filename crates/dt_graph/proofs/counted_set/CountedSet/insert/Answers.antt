use Rattle.std.proofs.Common.{◌+◌, ◌∙◌, length, sym, ap, arith}
use Rattle.dt_graph.specs.declared.limits.TheConstants.{CLASSES}
use Rattle.dt_graph.proofs.Members.{size_placed, size_fits}
use Rattle.dt_graph.proofs.counted_set.CountedSet.insert.Goals as goal

pub overflow_add-self : goal.overflow_add-self
overflow_add-self c =
    let few = size_fits CLASSES c.self.inside.classes c.law.ensures.ascend c.law.ensures.below_limit in
    omega (arith, few, c.self.invariant)

pub invariant_of-self : goal.invariant_of-self
invariant_of-self c =
    ap (λ n. n + 1) c.self.invariant
    ∙ sym (size_placed c.args.class c.self.inside.classes (sym c.contains.ensures ∙ c.if-not-contains.true))
    ∙ sym (ap length c.insert.ensures.list)
