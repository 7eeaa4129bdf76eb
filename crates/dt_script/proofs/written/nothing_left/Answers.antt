use Rattle.std.proofs.Common.{length, ap, arith}
use Rattle.dt_script.proofs.Parts.{some_part}
use Rattle.dt_script.proofs.written.nothing_left.Goals as goal

pub returns-in-Some : goal.returns-in-Some
returns-in-Some c = λ none. omega (arith, ap length (rw c.in-Some.is at none), some_part 32 c.in-Some.field-0.now)
