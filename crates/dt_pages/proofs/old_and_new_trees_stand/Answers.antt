use Rattle.dt_pages.proofs.Standing.{both_stand, reach_of_following}
use Rattle.dt_pages.proofs.old_and_new_trees_stand.Goals as goal

pub returns : goal.returns
returns c = record { stand = both_stand; reached = reach_of_following }
