use Rattle.std.proofs.Common.{◌≡◌, ℕ, length, get_or, None}
use Rattle.dt_pages.proofs.tree.no_middles.Given as goal

abbrev pub invariant-loop : goal.invariant-loop
invariant-loop l = (length l.middles.items ≡ l.counter) × ((at : ℕ) → get_or l.middles.items at None ≡ None)
