use Rattle.dt_graph.proofs.Needed.{add_refused, drop_refused, link_refused, unlink_refused}
use Rattle.dt_graph.proofs.laws.refusals_are_needed.Goals as goal

pub returns : goal.returns
returns c = record {
  add = add_refused;
  drop = drop_refused;
  link = link_refused;
  unlink = unlink_refused;
}
