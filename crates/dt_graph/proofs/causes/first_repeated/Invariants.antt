use Rattle.std.proofs.Common.{◌≡◌, [], take, drop}
use Rattle.dt_graph.specs.GraphChange.{first_repeated}
use Rattle.dt_graph.proofs.causes.first_repeated.Given as goal

abbrev pub invariant-loop-i : goal.invariant-loop-i
invariant-loop-i l = first_repeated [] l.classes ≡ first_repeated (take l.i l.classes) (drop l.i l.classes)
