use Rattle.dt_graph.proofs.Undone.{add_undone, drop_undone, link_undone, unlink_undone}
use Rattle.dt_graph.proofs.laws.changes_are_undone.Goals as goal

pub returns : goal.returns
returns c = record { add = add_undone; drop = drop_undone; link = link_undone; unlink = unlink_undone }
