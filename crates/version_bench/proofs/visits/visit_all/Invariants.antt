use Rattle.std.proofs.Common.{◌≡◌}
use Rattle.dt_gate.specs.declared.gate.Stage.TheVariants.{Out}
use Rattle.dt_version.specs.Views.{seat_of}
use Rattle.version_bench.proofs.visits.visit_all.Given as goal

abbrev pub invariant-loop : goal.invariant-loop
invariant-loop g l = ((seat_of l.seat.place).stage ≡ Out) × (l.seat.store ≡ l.fn.seat.store)
