use Rattle.dt_pages.proofs.Standing.{standing_is_read, nodes_are_reached, free_are_not_reached}
use Rattle.dt_pages.proofs.standing_trees_are_read.Goals as goal

pub returns : goal.returns
returns c = record { read = standing_is_read; reached = nodes_are_reached; free = free_are_not_reached }
