use Rattle.std.proofs.Common.{◌≡◌, ◌++◌, take}
use Rattle.dt_mrd.proofs.levels.add_turns.Given as goal

abbrev pub invariant-loop-turn : goal.invariant-loop-turn
invariant-loop-turn l = l.turns.items ≡ l.initial.turns.items ++ take l.turn-index l.more
