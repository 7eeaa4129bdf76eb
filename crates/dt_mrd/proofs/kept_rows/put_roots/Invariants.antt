use Rattle.std.proofs.Common.{◌≡◌, drop}
use Rattle.dt_mrd.specs.Kept.{with_roots}
use Rattle.dt_mrd.proofs.kept_rows.put_roots.Given as goal

abbrev pub invariant-loop-root : goal.invariant-loop-root
invariant-loop-root l = with_roots (drop l.root-index l.staged) l.roots.items ≡ with_roots l.staged l.initial.roots.items
