use Rattle.std.proofs.Common.{◌-◌}
use Rattle.dt_script.specs.GeneratedLines.{caller_lines, after_caller}
use Rattle.dt_script.proofs.WrittenInTurn.{WrittenSoFar}
use Rattle.dt_script.proofs.generated_calls.push_callers.Given as goal

abbrev pub invariant-loop-caller : goal.invariant-loop-caller
invariant-loop-caller l =
    WrittenSoFar (caller_lines l.size.classes l.size.selectors) (after_caller l.size.selectors) l.initial.text.items l.fn.draws 1 (l.caller - 1) l.text.items l.draws
