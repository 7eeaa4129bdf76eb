use Rattle.std.proofs.Common.{refl, arith}
use Rattle.dt_gate.proofs.SmallRuns.{zero_in_bounds}
use Rattle.dt_gate.proofs.examples.an_old_root_is_freed.Goals as goal

pub returns : goal.returns
returns c = record {
  allowed = (
    omega arith,
    (
      refl,
      (
        refl,
        (
          record { is_there = omega arith; is_free = refl },
          (
            record { is_there = omega arith; is_free = refl },
            (
              record { is_there = omega arith; is_free = refl },
              (
                record { is_free = refl; no_exit = refl; next_version = refl; top = 0; top_is_laid = refl; top_shows = tt; in_bounds = λ page met. zero_in_bounds 8192 16 0 page (omega arith) met },
                (tt, (tt, (tt, tt))),
              ),
            ),
          ),
        ),
      ),
    ),
  );
  still_old = refl;
  found_held = refl;
  then_free = refl;
  other_is_current = refl;
  polls = refl;
  history = refl;
}
