use Rattle.std.proofs.Common.{◌≡◌, ℕ, [], length}
use Rattle.dt_definitions.specs.Naming.{keys_at}
use Rattle.dt_definitions.proofs.naming_index.empty_lists.Given as goal

abbrev pub invariant-loop : goal.invariant-loop
invariant-loop l = record { so_many : length l.lists.items ≡ l.counter; none : (class : ℕ) → keys_at l.lists.items class ≡ [] }
