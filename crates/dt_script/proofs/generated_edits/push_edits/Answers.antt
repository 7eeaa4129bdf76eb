use Rattle.std.proofs.Common.{[], get_or, arith}
use Rattle.dt_script.specs.GeneratedLines.{edit_line, after_edit}
use Rattle.dt_script.proofs.WrittenInTurn.{nothing_written, one_more_written}
use Rattle.dt_script.proofs.generated_edits.push_edits.Goals as goal

pub loop-edit-init : goal.loop-edit-init
loop-edit-init c = nothing_written (edit_line (λ n. get_or c.args.firsts.now n 0) (λ n. get_or c.args.tuples.now n []) c.args.size.classes c.args.size.selectors) after_edit c.push.new.text.items c.args.draws.now 0

pub loop-edit-preserved : goal.loop-edit-preserved
loop-edit-preserved c =
    one_more_written (edit_line (λ n. get_or c.args.firsts.now n 0) (λ n. get_or c.args.tuples.now n []) c.args.size.classes c.args.size.selectors) after_edit c.push.new.text.items c.args.draws.now 0
    c.loop-edit.edit c.loop-edit.edit c.loop-edit.text.items c.push_edit.new.text.items c.loop-edit.draws c.push_edit.new.draws
    (omega arith) c.in_ok-push_edit.ensures.text c.in_ok-push_edit.ensures.state c.loop-edit.invariant
