use Rattle.std.proofs.Common.{arith}
use Rattle.dt_script.specs.GeneratedLines.{call_line, after_call}
use Rattle.dt_script.proofs.WrittenInTurn.{nothing_written, one_more_written}
use Rattle.dt_script.proofs.generated_calls.push_calls.Goals as goal

pub loop-number-init : goal.loop-number-init
loop-number-init c = nothing_written (call_line c.args.size.classes c.args.size.selectors) (after_call c.args.size.selectors) c.push_caller.new.text.items c.args.draws.now 0

pub loop-number-preserved : goal.loop-number-preserved
loop-number-preserved c =
    one_more_written (call_line c.args.size.classes c.args.size.selectors) (after_call c.args.size.selectors) c.push_caller.new.text.items c.args.draws.now 0
    c.loop-number.number c.loop-number.number c.loop-number.text.items c.push_drawn_call.new.text.items c.loop-number.draws c.push_drawn_call.new.draws
    (omega arith) c.in_ok-push_drawn_call.ensures.text c.in_ok-push_drawn_call.ensures.state c.loop-number.invariant
