use Rattle.std.proofs.Common.{◌≡◌, ◌≤◌}
use Rattle.version_bench.proofs.rounds.fill_rounds.Given as goal

abbrev pub invariant-loop : goal.invariant-loop
invariant-loop g l = (194 ≤ l.filler.author.store.now.limits.pages) × (l.filler.author.store ≡ l.fn.filler.author.store)
