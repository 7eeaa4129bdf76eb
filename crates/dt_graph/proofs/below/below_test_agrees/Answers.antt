use Rattle.dt_graph.proofs.Walks.{below_agrees}
use Rattle.dt_graph.proofs.below.below_test_agrees.Goals as goal

pub returns : goal.returns
returns c = below_agrees
