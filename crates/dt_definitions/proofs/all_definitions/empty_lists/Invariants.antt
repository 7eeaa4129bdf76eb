use Rattle.std.proofs.Common.{◌≡◌, length}
use Rattle.dt_definitions.specs.SelectorLists.{NoneDefined}
use Rattle.dt_definitions.proofs.all_definitions.empty_lists.Given as goal

abbrev pub invariant-loop : goal.invariant-loop
invariant-loop l = record { so_many : length l.rows.items ≡ l.counter; none : NoneDefined l.rows.items }
