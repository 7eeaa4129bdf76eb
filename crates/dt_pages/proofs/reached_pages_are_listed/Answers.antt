use Rattle.dt_pages.proofs.Listed.{each_reach_is_listed}
use Rattle.dt_pages.proofs.reached_pages_are_listed.Goals as goal

pub returns : goal.returns
returns c = each_reach_is_listed
