use Rattle.dt_pages.proofs.Adopting.{LayingFrom}
use Rattle.dt_pages.proofs.overlay.lay_changes.Given as goal

abbrev pub invariant-loop-at : goal.invariant-loop-at
invariant-loop-at l =
    (goal.iterator-loop-at).can_next l.at-iterator ×
    (goal.iterator-loop-at).is_finite l.at-iterator ×
    LayingFrom l.changes l.at-iterator l.initial.middles.items l.middles.items l.rooms.items
