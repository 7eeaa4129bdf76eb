use Rattle.std.proofs.Common.{◌≡◌, ◌+◌, ◌≤◌}
use Rattle.version_bench.proofs.filler.Filler.fill_leaves.Given as goal

abbrev pub invariant-loop-leaf : goal.invariant-loop-leaf
invariant-loop-leaf l = (130 + l.fn.leaves ≤ l.self.author.store.now.limits.pages) × (l.self.author.store ≡ l.fn.self.author.store)
