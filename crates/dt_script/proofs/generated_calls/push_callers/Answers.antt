use Rattle.std.proofs.Common.{◌≡◌, ◌+◌, ◌-◌, ◌≤◌, subst, arith}
use Rattle.dt_script.specs.GeneratedLines.{caller_lines, after_caller}
use Rattle.dt_script.proofs.WrittenInTurn.{WrittenSoFar, nothing_written, one_more_written}
use Rattle.dt_script.proofs.generated_calls.push_callers.Goals as goal

pub loop-caller-init : goal.loop-caller-init
loop-caller-init c = nothing_written (caller_lines c.args.size.classes c.args.size.selectors) (after_caller c.args.size.selectors) c.push.new.text.items c.args.draws.now 1

pub loop-caller-preserved : goal.loop-caller-preserved
loop-caller-preserved c =
    let least : 1 ≤ c.loop-caller.caller = c.loop-caller.auto.caller in
    let one : c.loop-caller.caller - 1 + 1 ≡ c.loop-caller.caller + 1 - 1 = omega arith in
    subst (λ n. WrittenSoFar (caller_lines c.args.size.classes c.args.size.selectors) (after_caller c.args.size.selectors) c.push.new.text.items c.args.draws.now 1 n c.push_calls.new.text.items c.push_calls.new.draws) one
    (one_more_written (caller_lines c.args.size.classes c.args.size.selectors) (after_caller c.args.size.selectors) c.push.new.text.items c.args.draws.now 1
    (c.loop-caller.caller - 1) c.loop-caller.caller c.loop-caller.text.items c.push_calls.new.text.items c.loop-caller.draws c.push_calls.new.draws
    (omega arith) c.in_ok-push_calls.ensures.text c.in_ok-push_calls.ensures.state c.loop-caller.invariant)
