use Rattle.dt_script.proofs.CallerBits.{no_bit}
use Rattle.dt_script.proofs.caller_set.CallerSet.new.Goals as goal

pub returns : goal.returns
returns c = no_bit 5
