use Rattle.std.proofs.Common.{◌≡◌, ℕ, refl, arith}
use Rattle.dt_gate.proofs.SmallRuns.{zero_in_bounds}
use Rattle.dt_gate.proofs.wrong.a_publish_that_frees_at_once.Goals as goal

pub returns : goal.returns
returns c = record {
  before = (omega arith, (refl, (refl, (record { is_there = omega arith; is_free = refl }, (record { is_there = omega arith; is_free = refl }, (record { is_there = omega arith; is_free = refl }, tt))))));
  publish = record { is_free = refl; no_exit = refl; next_version = refl; top = 0; top_is_laid = refl; top_shows = tt; in_bounds = λ page met. zero_in_bounds 8192 16 0 page (omega arith) met };
  breaks = λ sound. let one : ◌≡◌ {A = ℕ} 1 0 = sound.entries_are_accounted_for.none_inside_a_free_root 0 refl in absurd (omega (arith, one));
}
