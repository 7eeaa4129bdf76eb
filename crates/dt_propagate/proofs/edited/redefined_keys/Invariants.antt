use Rattle.std.proofs.Common.{◌≡◌, take}
use Rattle.dt_definitions.specs.Differing.{redefined_keys}
use Rattle.dt_propagate.proofs.edited.redefined_keys.Given as goal

abbrev pub invariant-loop-place : goal.invariant-loop-place
invariant-loop-place l = l.keys.items ≡ redefined_keys (take l.place l.fn.batch)
