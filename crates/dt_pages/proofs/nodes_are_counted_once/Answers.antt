use Rattle.dt_pages.proofs.Nodes.{places_counted, differences_seen}
use Rattle.dt_pages.proofs.nodes_are_counted_once.Goals as goal

pub returns-clause-places : goal.returns-clause-places
returns-clause-places c = places_counted

pub returns-clause-differences : goal.returns-clause-differences
returns-clause-differences c = differences_seen
