use Rattle.std.proofs.Common.{◌≡◌}
use Rattle.version_rounds.proofs.publisher.Publisher.free_root.Given as goal

abbrev pub invariant-loop-root : goal.invariant-loop-root
invariant-loop-root l = l.self.author.store ≡ l.fn.self.author.store
