use Rattle.std.proofs.Common.{◌≡◌, ℕ, drop}
use Rattle.std.specs.Ordering.{nat_cmp}
use Rattle.std.specs.BTreeMap as tree
use Rattle.dt_mrd.specs.Changing.{changes_put}
use Rattle.dt_mrd.proofs.changing.change_cells.Given as goal

abbrev pub invariant-loop-change : goal.invariant-loop-change
invariant-loop-change l =
    (other : ℕ) → changes_put (tree.get nat_cmp l.cells) l.depth (drop l.change-index l.changes) other ≡ changes_put (tree.get nat_cmp l.initial.cells) l.depth l.changes other
