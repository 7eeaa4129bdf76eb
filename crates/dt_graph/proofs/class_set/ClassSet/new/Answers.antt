use Rattle.std.proofs.Common.{refl}
use Rattle.dt_graph.specs.declared.limits.TheConstants.{CLASSES}
use Rattle.dt_graph.proofs.ClassBits.{none_set}
use Rattle.dt_graph.proofs.class_set.ClassSet.new.Goals as goal

pub returns : goal.returns
returns c = none_set CLASSES 32 refl
