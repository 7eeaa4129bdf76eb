use Rattle.dt_script.proofs.CallerBits.{bit_read}
use Rattle.dt_script.proofs.caller_set.CallerSet.contains.Goals as goal

pub returns : goal.returns
returns c = bit_read c.args.self.now.words c.args.caller
