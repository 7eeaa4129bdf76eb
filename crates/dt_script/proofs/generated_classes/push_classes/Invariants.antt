use Rattle.dt_script.specs.GeneratedLines.{class_line, after_parents}
use Rattle.dt_script.specs.GeneratedLists.{HasFirstParents}
use Rattle.dt_script.proofs.WrittenInTurn.{WrittenSoFar}
use Rattle.dt_script.proofs.generated_classes.push_classes.Given as goal

abbrev pub invariant-loop-class : goal.invariant-loop-class
invariant-loop-class l = record {
  written : WrittenSoFar class_line after_parents l.initial.text.items l.fn.draws 0 l.class l.text.items l.draws;
  firsts : HasFirstParents l.fn.draws l.class l.firsts.items;
}
