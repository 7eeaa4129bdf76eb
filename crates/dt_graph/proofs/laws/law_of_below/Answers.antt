use Rattle.dt_graph.proofs.LawfulChanges.{antisymmetric, joins_live}
use Rattle.dt_graph.proofs.BelowSets.{both_live}
use Rattle.dt_graph.proofs.laws.law_of_below.Goals as goal

pub returns : goal.returns
returns c = record {
  antisymmetric = λ graph lawful. antisymmetric graph.links lawful.no_cycle;
  links = joins_live;
  live = both_live;
}
