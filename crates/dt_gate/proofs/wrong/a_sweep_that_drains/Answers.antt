use Rattle.std.proofs.Common.{◌≡◌, ℕ, refl, arith}
use Rattle.dt_gate.proofs.SmallRuns.{zero_in_bounds}
use Rattle.dt_gate.proofs.wrong.a_sweep_that_drains.Goals as goal

pub returns : goal.returns
returns c = record {
  before = (
    omega arith,
    (
      refl,
      (
        refl,
        (
          record { is_there = omega arith; is_free = refl },
          (
            record { is_there = omega arith; is_free = refl },
            (
              record { is_there = omega arith; is_free = refl },
              (
                record { is_free = refl; no_exit = refl; next_version = refl; top = 0; top_is_laid = refl; top_shows = tt; in_bounds = λ page met. zero_in_bounds 8192 16 0 page (omega arith) met },
                tt,
              ),
            ),
          ),
        ),
      ),
    ),
  );
  poll = tt;
  breaks = λ sound. let two : ◌≡◌ {A = ℕ} 2 1 = sound.entries_are_accounted_for.of_an_old_root 0 1 refl in absurd (omega (arith, two));
}
