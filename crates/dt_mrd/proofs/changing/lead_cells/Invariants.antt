use Rattle.std.proofs.Common.{◌≡◌, ℕ, drop}
use Rattle.std.specs.Ordering.{nat_cmp}
use Rattle.std.specs.BTreeMap as tree
use Rattle.dt_mrd.specs.Changing.{turns_put}
use Rattle.dt_mrd.proofs.changing.lead_cells.Given as goal

abbrev pub invariant-loop-turn : goal.invariant-loop-turn
invariant-loop-turn l =
    (other : ℕ) → turns_put (tree.get nat_cmp l.cells) l.depth (drop l.turn-index l.led) other ≡ turns_put (tree.get nat_cmp l.initial.cells) l.depth l.led other
