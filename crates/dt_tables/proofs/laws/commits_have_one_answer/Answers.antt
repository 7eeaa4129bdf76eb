use Rattle.dt_tables.proofs.Commit.{commits_have_one_answer, commits_have_an_answer, ok_alone_commits}
use Rattle.dt_tables.proofs.laws.commits_have_one_answer.Goals as goal

pub returns : goal.returns
returns c = record { one = commits_have_one_answer; some = commits_have_an_answer; ok_alone = ok_alone_commits }
