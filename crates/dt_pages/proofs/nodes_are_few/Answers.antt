use Rattle.dt_pages.proofs.Few.{nodes_are_few, nodes_in_regions_are_few}
use Rattle.dt_pages.proofs.nodes_are_few.Goals as goal

pub returns : goal.returns
returns c = record { words = nodes_are_few; regions = nodes_in_regions_are_few }
