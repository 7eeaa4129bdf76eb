-- The arithmetic of a draw, as the code does it.
use Rattle.std.proofs.Common.{◌≡◌, ℕ, ◌+◌, ◌*◌, ◌/◌, ◌%◌, refl}
use Rattle.std.proofs.Math.Nat.{mod-add-mod}
use Rattle.dt_script.specs.Draw.{next_state, number_of}

pub state_wraps : (state : ℕ) →
    (state * 6364136223846793005 % 18446744073709551616 + 1442695040888963407) % 18446744073709551616 ≡ next_state state
unfolding next_state
state_wraps state = mod-add-mod (state * 6364136223846793005) 18446744073709551616 1442695040888963407

pub number_of_shifted : (state bound : ℕ) → state / 8589934592 % bound ≡ number_of state bound
unfolding number_of
number_of_shifted state bound = refl
