use Rattle.std.proofs.Common.{length}
use Rattle.dt_pages.specs.Image.{look_up}
use Rattle.dt_pages.specs.Draft.{laid_over}
use Rattle.dt_placing.proofs.Turns.{TurnsSoFar}
use Rattle.dt_placing.proofs.selector_turns.take_turns.Given as goal

abbrev pub invariant-loop-rest : goal.invariant-loop-rest
invariant-loop-rest l = TurnsSoFar l.geometry l.words (look_up l.tree) (laid_over l.initial.draft (look_up l.tree)) l.changes l.rest l.initial.cells l.cells
    (laid_over l.draft (look_up l.tree)) l.staged.items

abbrev pub decreases-loop-rest : goal.decreases-loop-rest
decreases-loop-rest l = length l.rest
