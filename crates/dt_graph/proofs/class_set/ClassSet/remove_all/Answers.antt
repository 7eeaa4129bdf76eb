use Rattle.std.proofs.Common.{arith}
use Rattle.dt_graph.specs.declared.limits.TheConstants.{CLASSES}
use Rattle.dt_graph.proofs.ClassBits.{left_over}
use Rattle.dt_graph.proofs.class_set.ClassSet.remove_all.Goals as goal

pub returns : goal.returns
returns c =
    left_over CLASSES c.loop-i.self-inside.words c.self.inside.words c.other.inside.words c.args.self.now c.args.other.now (record {
      first_shown = c.self.view_is;
      second_shown = c.other.view_is;
      made_all = omega (arith, c.loop-i.invariant.0);
      first_all = omega (arith, c.self.told);
      second_all = omega (arith, c.other.told);
    })
    (λ j inside. c.loop-i.invariant.3 j (omega (arith, c.loop-i.invariant.0)))
    (λ j inside. c.loop-i.invariant.1 j (omega (arith, c.loop-i.invariant.0)))
