use Rattle.std.proofs.Common.{◌≡◌, take}
use Rattle.dt_definitions.specs.Differing.{edited_classes}
use Rattle.dt_propagate.proofs.edited.edited_classes.Given as goal

abbrev pub invariant-loop-place : goal.invariant-loop-place
invariant-loop-place l = l.classes.items ≡ edited_classes (take l.place l.fn.batch)
