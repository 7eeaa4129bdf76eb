use Rattle.dt_graph.proofs.ParentLists.{parent_count_listed}
use Rattle.dt_graph.proofs.ListsOfGraphs.{parents_listed, parents_ascend, descendants_listed, descendants_ascend, lowest_is_subclass, no_subclass}
use Rattle.dt_graph.proofs.listed.lists_agree.Goals as goal

pub returns : goal.returns
returns c = record {
  parents = parents_listed;
  parents_ascend = parents_ascend;
  parent_count = parent_count_listed;
  descendants = descendants_listed;
  descendants_ascend = descendants_ascend;
  lowest_subclass = lowest_is_subclass;
  no_subclass = no_subclass;
}
