use Rattle.std.proofs.Common.{refl}
use Rattle.dt_selectors.specs.declared.limits.TheConstants.{SELECTORS}
use Rattle.dt_graph.proofs.ClassBits.{none_set}
use Rattle.dt_propagate.proofs.selector_set.SelectorSet.new.Goals as goal

pub returns : goal.returns
returns c = none_set SELECTORS 64 refl
