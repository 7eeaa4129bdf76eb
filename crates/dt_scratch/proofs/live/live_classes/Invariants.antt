use Rattle.std.proofs.Common.{◌≡◌, take}
use Rattle.dt_scratch.specs.Resolve.{first_dead}
use Rattle.dt_scratch.proofs.LiveNumbers.{dead_from}
use Rattle.dt_scratch.proofs.live.live_classes.Given as goal

abbrev pub invariant-loop-index : goal.invariant-loop-index
invariant-loop-index l = record {
  taken : l.live.items ≡ take l.index l.query.classes;
  dead : first_dead l.graph 1 l.query.classes ≡ dead_from l.graph l.query.classes l.index;
}
