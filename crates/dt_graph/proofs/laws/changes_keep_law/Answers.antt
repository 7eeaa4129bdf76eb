use Rattle.dt_graph.proofs.LawfulChanges.{empty_lawful, add_keeps, drop_keeps, link_keeps, unlink_keeps}
use Rattle.dt_graph.proofs.laws.changes_keep_law.Goals as goal

pub returns : goal.returns
returns c = record {
  empty = empty_lawful;
  add = add_keeps;
  drop = drop_keeps;
  link = link_keeps;
  unlink = λ graph class parent lawful _. unlink_keeps graph class parent lawful;
}
