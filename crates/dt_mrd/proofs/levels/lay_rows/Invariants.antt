use Rattle.std.proofs.Common.{◌≡◌, ◌+◌, ◌++◌, ℕ, List, length}
use Rattle.slab.specs.Slab.{get}
use Rattle.dt_mrd.specs.declared.turn.Turn.{Turn}
use Rattle.dt_mrd.specs.Levels.{KeptAt, Extends, IsLevel}
use Rattle.dt_mrd.proofs.levels.lay_rows.Given as goal

abbrev pub invariant-loop-query : goal.invariant-loop-query
invariant-loop-query l = record {
  extends : Extends (get l.initial.rows) l.initial.fresh.items (get l.rows) l.fresh.items;
  level : (done : List Turn) × (l.level.items ≡ l.initial.level.items ++ done)
      × ((more : List Turn) (rows : KeptAt) (fresh : List ℕ) → IsLevel l.root l.depth (get l.rows) l.fresh.items l.changes l.led more rows fresh
      → IsLevel l.root l.depth (get l.initial.rows) l.initial.fresh.items l.initial.changes l.initial.led (done ++ more) rows fresh);
}

abbrev pub decreases-loop-query : goal.decreases-loop-query
decreases-loop-query l = length l.changes + length l.led
