use Rattle.dt_pages.proofs.Needed.{first_needs_all, same_needs_none, need_is_at_most_nodes}
use Rattle.dt_pages.proofs.need_is_of_nodes.Goals as goal

pub returns : goal.returns
returns c = record { first = first_needs_all; same = same_needs_none; most = need_is_at_most_nodes }
