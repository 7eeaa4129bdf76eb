use Rattle.dt_graph.proofs.Effects.{live_after_add, links_after_add, live_after_drop, links_after_drop, live_after_link, links_after_link, live_after_unlink, links_after_unlink}
use Rattle.dt_graph.proofs.laws.what_changes_leave.Goals as goal

pub returns : goal.returns
returns c = record {
  add_live = live_after_add;
  add_links = links_after_add;
  drop_live = live_after_drop;
  drop_links = links_after_drop;
  link_live = live_after_link;
  link_links = links_after_link;
  unlink_live = live_after_unlink;
  unlink_links = links_after_unlink;
}
