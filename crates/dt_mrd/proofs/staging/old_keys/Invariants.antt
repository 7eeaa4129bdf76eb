use Rattle.std.proofs.Common.{◌≡◌, take, filter_map}
use Rattle.dt_mrd.proofs.staging.old_keys.Given as goal

abbrev pub invariant-loop-turn : goal.invariant-loop-turn
invariant-loop-turn l = l.keys.items ≡ filter_map (λ turn. turn.old) (take l.turn-index l.turns)
