use Rattle.std.proofs.Common.{◌≡◌, ℕ, None, take, if◌then◌else◌}
use Rattle.slab.specs.Slab.{get}
use Rattle.dt_mrd.specs.Laying.{is_among}
use Rattle.dt_mrd.proofs.kept_rows.give_up.Given as goal

abbrev pub invariant-loop-key : goal.invariant-loop-key
invariant-loop-key l = (key : ℕ) → get l.rows key ≡ (if is_among (take l.key-index l.keys) key then None else get l.initial.rows key)
