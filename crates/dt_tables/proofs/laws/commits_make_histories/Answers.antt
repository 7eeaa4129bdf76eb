use Rattle.dt_tables.proofs.Commit.{commits_make_histories}
use Rattle.dt_tables.proofs.laws.commits_make_histories.Goals as goal

pub returns : goal.returns
returns c = commits_make_histories
