use Rattle.dt_run.proofs.CommittedLine.{commit_tells}
use Rattle.dt_run.proofs.perform.current.commit.Goals as goal

pub returns : goal.returns
returns g c = commit_tells _ _ _ _ c.commit.ensures.program
