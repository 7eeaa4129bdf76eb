use Rattle.std.proofs.Common.{◌≡◌, ◌==◌, filter, take}
use Rattle.dt_propagate.proofs.walk.keys_of.Given as goal

abbrev pub invariant-loop-key : goal.invariant-loop-key
invariant-loop-key l = l.own.items ≡ filter (λ key. key.selector == l.fn.selector) (take l.key-index l.fn.keys)
