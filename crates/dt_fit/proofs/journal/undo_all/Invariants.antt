use Rattle.std.proofs.Common.{◌≡◌, length}
use Rattle.dt_fit.specs.Undoing.{undone, AreWithin}
use Rattle.dt_fit.proofs.journal.undo_all.Given as goal

abbrev pub invariant-loop-before : goal.invariant-loop-before
invariant-loop-before l = record {
  left : undone l.journal.items l.words.items ≡ undone l.initial.journal.items l.initial.words.items;
  within : AreWithin l.journal.items l.words.items;
  count : length l.words.items ≡ length l.initial.words.items;
}

abbrev pub decreases-loop-before : goal.decreases-loop-before
decreases-loop-before l = length l.journal.items
