use Rattle.dt_graph.proofs.Walks.{is_below_self, is_below_trans}
use Rattle.dt_graph.proofs.below.below_is_an_order.Goals as goal

pub returns-clause-reflexive : goal.returns-clause-reflexive
returns-clause-reflexive c = is_below_self

pub returns-clause-transitive : goal.returns-clause-transitive
returns-clause-transitive c = is_below_trans
