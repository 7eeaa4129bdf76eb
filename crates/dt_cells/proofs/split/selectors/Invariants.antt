use Rattle.std.proofs.Common.{◌≡◌, ℕ, Bool, take}
use Rattle.std.specs.List.{list_any}
use Rattle.dt_cells.proofs.split.selectors.Given as goal

abbrev pub invariant-loop-change : goal.invariant-loop-change
invariant-loop-change l = (test : ℕ → Bool) → list_any test l.selectors.items ≡ list_any (λ change. test change.query.selector) (take l.change-index l.changes)
