use Rattle.std.proofs.Common.{◌≡◌, ℕ, take, None, option_copied, if◌then◌else◌}
use Rattle.std.specs.Ordering.{nat_cmp}
use Rattle.std.specs.BTreeMap as tree
use Rattle.dt_mrd.specs.Kept.{next_in}
use Rattle.dt_mrd.specs.Laying.{is_among}
use Rattle.dt_mrd.proofs.changing.copied.Given as goal

abbrev pub invariant-loop-class : goal.invariant-loop-class
invariant-loop-class l =
    (class : ℕ) → tree.get nat_cmp l.copy class ≡ (if is_among (take l.class-index l.class-items) class then next_in (option_copied l.row) class else None)
