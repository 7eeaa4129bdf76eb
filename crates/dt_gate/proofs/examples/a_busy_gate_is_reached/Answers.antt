use Rattle.std.proofs.Common.{refl, arith}
use Rattle.dt_gate.specs.Gate.{fresh}
use Rattle.dt_gate.specs.Runs.{InRange, AreAllowed}
use Rattle.dt_gate.specs.WrongMachines.{anything}
use Rattle.dt_gate.specs.Busy.{two, busy_run}
use Rattle.dt_gate.proofs.Running.{reached_is_sound}
use Rattle.dt_gate.proofs.SmallRuns.{zero_in_bounds}
use Rattle.dt_gate.proofs.examples.a_busy_gate_is_reached.Goals as goal

in_range : InRange two
in_range = record { some_reader = omega arith; readers = omega arith; some_pages = omega arith; pages = omega arith; some_entry = omega arith; entries = omega arith }

each_is_allowed : AreAllowed anything two (fresh two) busy_run
each_is_allowed = (omega arith, (omega arith, (refl, (refl, (refl, (refl, (tt, (record { is_there = omega arith; is_free = refl }, (record { is_there = omega arith; is_free = refl }, (record { is_there = omega arith; is_free = refl }, (record { is_free = refl; no_exit = refl; next_version = refl; top = 0; top_is_laid = refl; top_shows = tt; in_bounds = λ page met. zero_in_bounds 8192 16 0 page (omega arith) met }, (tt, (refl, (refl, (tt, (tt, (tt, (record { is_there = omega arith; is_free = refl }, tt))))))))))))))))))

pub returns : goal.returns
returns c = record {
  allowed = each_is_allowed;
  leads_there = refl;
  is_sound = reached_is_sound anything two in_range tt c.reached_pages_decide.ensures c.page_zero_is_empty.ensures _ (busy_run, each_is_allowed, refl);
}
