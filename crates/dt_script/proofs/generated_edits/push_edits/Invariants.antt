use Rattle.std.proofs.Common.{[], get_or}
use Rattle.dt_script.specs.GeneratedLines.{edit_line, after_edit}
use Rattle.dt_script.proofs.WrittenInTurn.{WrittenSoFar}
use Rattle.dt_script.proofs.generated_edits.push_edits.Given as goal

abbrev pub invariant-loop-edit : goal.invariant-loop-edit
invariant-loop-edit l =
    WrittenSoFar (edit_line (λ n. get_or l.firsts n 0) (λ n. get_or l.tuples n []) l.size.classes l.size.selectors) after_edit l.initial.text.items l.fn.draws 0 l.edit l.text.items l.draws
