use Rattle.std.proofs.Common.{◌≡◌, ℕ, refl, inl, arith}
use Rattle.dt_gate.proofs.SmallRuns.{zero_in_bounds}
use Rattle.dt_gate.proofs.wrong.a_fill_under_a_reader.Goals as goal

pub returns : goal.returns
returns c = record {
  before = (
    record { is_there = omega arith; is_free = refl },
    (
      record { is_there = omega arith; is_free = refl },
      (
        record { is_there = omega arith; is_free = refl },
        (
          record { is_free = refl; no_exit = refl; next_version = refl; top = 1; top_is_laid = refl; top_shows = tt; in_bounds = λ page met. zero_in_bounds 8192 16 1 page (omega arith) met },
          (omega arith, (refl, (refl, tt))),
        ),
      ),
    ),
  );
  fill = (omega arith, omega arith, omega arith);
  breaks = λ sound. let changed : ◌≡◌ {A = ℕ} 0 5 = (sound.pages_show_versions.inside_is_safe 0 1 _ refl).words_stay.pages 1 (inl refl) 0 (omega arith) in absurd (omega (arith, changed));
}
