use Rattle.std.proofs.Common.{◌<◌}
use Rattle.version_bench.proofs.plain.turn_many.Given as goal

abbrev pub invariant-loop-done : goal.invariant-loop-done
invariant-loop-done l = l.root < 6
