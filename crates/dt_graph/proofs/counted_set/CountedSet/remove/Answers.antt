use Rattle.std.proofs.Common.{◌∙◌, sym, arith}
use Rattle.dt_graph.proofs.Members.{size_removed}
use Rattle.dt_graph.proofs.counted_set.CountedSet.remove.Goals as goal

pub invariant_of-self : goal.invariant_of-self
invariant_of-self c =
    omega (
      arith,
      c.self.invariant,
      size_removed c.args.class c.self.inside.classes c.remove.new.self c.law.ensures.ascend c.law-then-contains.ensures.ascend
          (sym c.contains.ensures ∙ c.if-contains.true) c.remove.ensures,
    )
