use Rattle.dt_script.proofs.Drawing.{state_wraps, number_of_shifted}
use Rattle.dt_script.specs.Draw.{next_state}
use Rattle.dt_script.proofs.draws.Draws.draw.Goals as goal

pub returns-clause-value : goal.returns-clause-value
returns-clause-value c = cc (state_wraps c.self.inside.state, number_of_shifted (next_state c.self.inside.state) c.args.bound)

pub returns-clause-state : goal.returns-clause-state
returns-clause-state c = cc (state_wraps c.self.inside.state)
