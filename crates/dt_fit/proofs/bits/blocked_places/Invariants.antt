use Rattle.std.proofs.Common.{◌≡◌, ◌==◌, ℕ, ◌+◌, ◌<◌, ◌||◌, not, take}
use Rattle.std.specs.Int.{bit_at}
use Rattle.dt_fit.specs.Bits.{are_free}
use Rattle.dt_fit.proofs.bits.blocked_places.Given as goal

abbrev pub invariant-loop-index : goal.invariant-loop-index
invariant-loop-index l =
    (j : ℕ) → j < 64 → (bit_at l.blocked j == 1) ≡ ((bit_at l.start j == 1) || not (are_free l.words l.step (take l.index-index l.indexes) (l.first + j)))
