use Rattle.dt_outside.proofs.OverCalls.{losing_none_is_keeping, keeping_is_losing_none, losses_add_up}
use Rattle.dt_outside.proofs.laws.losses_add_up.Goals as goal

pub returns : goal.returns
returns c = record { none = losing_none_is_keeping; kept = keeping_is_losing_none; sum = losses_add_up }
