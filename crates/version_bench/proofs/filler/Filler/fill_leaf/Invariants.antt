use Rattle.std.proofs.Common.{◌≡◌, ◌+◌, ◌<◌}
use Rattle.version_bench.proofs.filler.Filler.fill_leaf.Given as goal

abbrev pub invariant-loop-at : goal.invariant-loop-at
invariant-loop-at l = (130 + l.fn.leaf < l.self.author.store.now.limits.pages) × (l.self.author.store ≡ l.fn.self.author.store)
