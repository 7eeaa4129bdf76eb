use Rattle.std.proofs.Common.{◌≡◌, ◌+◌, ◌-◌, ◌≤◌, ◌<◌, vec_len, []}
use Rattle.dt_outside.specs.Losing.{Moves}
use Rattle.dt_outside.proofs.reading.read_to_end.Given as goal

abbrev pub invariant-loop-source : goal.invariant-loop-source
invariant-loop-source g l = record {
  moved : Moves (g.S.Source.left l.fn.source) [] (g.S.Source.left l.source) l.bytes.items;
  room : 0 < vec_len l.room;
  bound : vec_len l.bytes ≤ l.limit + 1;
  faults : g.S.Source.faults l.source ≡ g.S.Source.faults l.fn.source;
}

abbrev pub decreases-loop-source : goal.decreases-loop-source
decreases-loop-source g l = l.limit + 1 - vec_len l.bytes
