use Rattle.std.proofs.Common.{◌≡◌, ℕ, length, get_or, None}
use Rattle.dt_mrd.proofs.kept_rows.no_keys.Given as goal

abbrev pub invariant-loop : goal.invariant-loop
invariant-loop l = (length l.keys.items ≡ l.counter) × ((at : ℕ) → get_or l.keys.items at None ≡ None)
