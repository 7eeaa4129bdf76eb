use Rattle.std.proofs.Common.{◌≡◌}
use Rattle.version_bench.specs.declared.known.Known.TheVariants as known
use Rattle.version_bench.proofs.turner.Turner.poll_old.Given as goal

abbrev pub invariant-loop-done : goal.invariant-loop-done
invariant-loop-done l = (l.root ≡ l.turner.other) × (l.turner.kept ≡ known.Old l.entries) × (l.turner.author.store ≡ l.fn.self.author.store)
