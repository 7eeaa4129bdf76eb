use Rattle.std.proofs.Common.{◌≡◌, ◌++◌, ℕ, List, length}
use Rattle.slab.specs.Slab.{get}
use Rattle.dt_mrd.specs.declared.staged.StagedRoot.{StagedRoot}
use Rattle.dt_mrd.specs.declared.turn.Turn.{Turn}
use Rattle.dt_mrd.specs.Levels.{KeptAt, Extends, AreSelectors}
use Rattle.dt_mrd.proofs.laying_selectors.lay_each.Given as goal

abbrev pub invariant-loop-rest : goal.invariant-loop-rest
invariant-loop-rest l = record {
  extends : Extends (get l.initial.rows) l.initial.fresh.items (get l.rows) l.fresh.items;
  selectors : (done : List StagedRoot) × (done_turns : List Turn)
      × (l.staged.items ≡ l.initial.staged.items ++ done) × (l.turns.items ≡ l.initial.turns.items ++ done_turns)
      × ((more : List StagedRoot) (more_turns : List Turn) (rows : KeptAt) (fresh : List ℕ)
      → AreSelectors l.roots (get l.rows) l.fresh.items l.rest more more_turns rows fresh
      → AreSelectors l.roots (get l.initial.rows) l.initial.fresh.items l.initial.rest (done ++ more) (done_turns ++ more_turns) rows fresh);
}

abbrev pub decreases-loop-rest : goal.decreases-loop-rest
decreases-loop-rest l = length l.rest
