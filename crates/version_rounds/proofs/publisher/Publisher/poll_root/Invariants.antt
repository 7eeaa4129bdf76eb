use Rattle.std.proofs.Common.{◌≡◌}
use Rattle.version_rounds.specs.Chains.{known_at}
use Rattle.version_rounds.specs.declared.known.Known.TheVariants as known
use Rattle.version_rounds.proofs.publisher.Publisher.poll_root.Given as goal

abbrev pub invariant-loop : goal.invariant-loop
invariant-loop l = (known_at l.self.known l.fn.root ≡ known.Old l.fn.entries) × (l.self.author.store ≡ l.fn.self.author.store)
