use Rattle.std.proofs.Common.{◌≡◌, ℕ, ◌||◌, is_some}
use Rattle.std.specs.Ordering.{nat_cmp}
use Rattle.std.specs.BTreeMap.{is_at}
use Rattle.std.specs.BTreeMap as tree
use Rattle.std.specs.Map.{lookup}
use Rattle.dt_mrd.specs.Laying.{is_among}
use Rattle.dt_mrd.proofs.indexes.classes_of.Given as goal

abbrev pub invariant-loop-class : goal.invariant-loop-class
invariant-loop-class l =
    (goal.iterator-loop-class).can_next l.class-iterator ×
    (goal.iterator-loop-class).is_finite l.class-iterator ×
    ((class : ℕ) → (is_among l.indexes.items class || is_some (lookup (is_at (nat_cmp class)) l.class-iterator)) ≡ is_some (tree.get nat_cmp l.cells class))
