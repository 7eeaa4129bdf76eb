use Rattle.std.proofs.Common.{◌≡◌, length, arith, rules}
use Rattle.dt_script.proofs.CallerBits.{bit_cleared}
use Rattle.dt_script.proofs.caller_set.CallerSet.remove.Goals as goal

pub returns : goal.returns
returns c = λ other.
    let all : length c.args.self.now.words ≡ 5 = search rules in
    bit_cleared c.args.self.now.words c.args.caller other (omega (arith, c.requires))
