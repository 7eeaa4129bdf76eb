use Rattle.dt_pages.proofs.Adopting.{Renumbering}
use Rattle.dt_pages.proofs.paged.set_all.Given as goal

abbrev pub invariant-loop-at : goal.invariant-loop-at
invariant-loop-at l =
    (goal.iterator-loop-at).can_next l.at-iterator ×
    (goal.iterator-loop-at).is_finite l.at-iterator ×
    Renumbering l.changes l.at-iterator l.initial.numbers.items l.numbers.items
