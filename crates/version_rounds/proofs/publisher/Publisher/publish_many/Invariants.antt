use Rattle.std.proofs.Common.{◌≡◌}
use Rattle.version_rounds.proofs.publisher.Publisher.publish_many.Given as goal

abbrev pub invariant-loop : goal.invariant-loop
invariant-loop l = l.self.author.store ≡ l.fn.self.author.store
