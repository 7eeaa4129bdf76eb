use Rattle.std.proofs.Common.{◌≡◌, ◌++◌, ℕ, ◌≤◌, None}
use Rattle.std.specs.FinMap.{entries, find}
use Rattle.std.specs.Ordering.{nat_cmp}
use Rattle.dt_pages.specs.Reading.{addresses}
use Rattle.dt_pages.specs.Paged.{numbering}
use Rattle.dt_pages.specs.Drawing.{leaves_of}
use Rattle.dt_pages.proofs.paged.PagedTree.leaves_of_words.Given as goal

abbrev pub invariant-loop-at : goal.invariant-loop-at
invariant-loop-at l =
    (goal.iterator-loop-at).can_next l.at-iterator ×
    (goal.iterator-loop-at).is_finite l.at-iterator ×
    (l.leaves.items ++ leaves_of (numbering l.self) l.at-iterator ≡ leaves_of (numbering l.self) (entries l.draft)) ×
    ((q : ℕ) → addresses ≤ q → find nat_cmp q l.at-iterator ≡ None)
