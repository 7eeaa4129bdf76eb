use Rattle.dt_scratch.proofs.TopClasses.{top_sees_itself}
use Rattle.dt_scratch.proofs.laws.top_sees_itself.Goals as goal

pub returns : goal.returns
returns c = top_sees_itself
