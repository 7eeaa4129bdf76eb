use Rattle.dt_pages.proofs.Laying.{Laying}
use Rattle.dt_pages.proofs.overlay.lay_all.Given as goal

abbrev pub invariant-loop-at : goal.invariant-loop-at
invariant-loop-at l =
    (goal.iterator-loop-at).can_next l.at-iterator ×
    (goal.iterator-loop-at).is_finite l.at-iterator ×
    Laying l.draft l.at-iterator l.initial.middles.items l.middles.items
