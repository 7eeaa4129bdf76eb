use Rattle.std.proofs.Common.{◌≡◌}
use Rattle.dt_gate.specs.declared.event.ReadWord.TheVariants as read
use Rattle.dt_gate.specs.Seats.{IsInside}
use Rattle.dt_gate.specs.Words.{frozen_at}
use Rattle.dt_version.specs.Views.{seat_of}
use Rattle.version_bench.proofs.reads.read_inside.Given as goal

abbrev pub invariant-loop : goal.invariant-loop
invariant-loop g l = IsInside (seat_of l.seat.place).stage × (l.top ≡ frozen_at read.Top (seat_of l.seat.place).stage)
    × (seat_of l.seat.place ≡ seat_of l.fn.seat.place) × (l.seat.store ≡ l.fn.seat.store)
