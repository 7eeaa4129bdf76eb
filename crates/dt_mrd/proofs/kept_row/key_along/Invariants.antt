use Rattle.std.proofs.Common.{◌≡◌, drop}
use Rattle.slab.specs.Slab.{get}
use Rattle.dt_mrd.specs.Kept.{key_along}
use Rattle.dt_mrd.proofs.kept_row.key_along.Given as goal

abbrev pub invariant-loop-class : goal.invariant-loop-class
invariant-loop-class l = key_along (get l.rows) l.key (drop l.class-index l.classes) ≡ key_along (get l.rows) l.fn.first l.classes
