use Rattle.dt_graph.proofs.BelowSets.{same_are_below_edited, others_stay_below}
use Rattle.dt_graph.proofs.laws.others_stay_below.Goals as goal

pub returns : goal.returns
returns c = record {
  same = same_are_below_edited;
  others = others_stay_below;
}
