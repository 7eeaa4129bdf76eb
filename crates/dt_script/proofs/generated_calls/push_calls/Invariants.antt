use Rattle.dt_script.specs.GeneratedLines.{call_line, after_call}
use Rattle.dt_script.proofs.WrittenInTurn.{WrittenSoFar}
use Rattle.dt_script.proofs.generated_calls.push_calls.Given as goal

abbrev pub invariant-loop-number : goal.invariant-loop-number
invariant-loop-number l =
    WrittenSoFar (call_line l.size.classes l.size.selectors) (after_call l.size.selectors) l.initial.text.items l.fn.draws 0 l.number l.text.items l.draws
