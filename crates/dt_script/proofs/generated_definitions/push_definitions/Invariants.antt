use Rattle.dt_script.specs.GeneratedLines.{definition_line, after_definition}
use Rattle.dt_script.specs.GeneratedLists.{HasTuples}
use Rattle.dt_script.proofs.WrittenInTurn.{WrittenSoFar}
use Rattle.dt_script.proofs.generated_definitions.push_definitions.Given as goal

abbrev pub invariant-loop-number : goal.invariant-loop-number
invariant-loop-number l = record {
  written : WrittenSoFar (definition_line l.size.classes l.size.selectors) (after_definition l.size.selectors) l.fn.text.items l.fn.draws 0 l.number l.text.items l.draws;
  tuples : HasTuples l.size.classes l.size.selectors l.fn.draws l.number l.tuples.items;
}
