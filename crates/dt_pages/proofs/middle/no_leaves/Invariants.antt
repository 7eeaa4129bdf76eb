use Rattle.std.proofs.Common.{◌≡◌, ℕ, length, get_or, None}
use Rattle.dt_pages.proofs.middle.no_leaves.Given as goal

abbrev pub invariant-loop : goal.invariant-loop
invariant-loop l = (length l.leaves.items ≡ l.counter) × ((at : ℕ) → get_or l.leaves.items at None ≡ None)
