use Rattle.std.proofs.Common.{◌++◌, [], get_or, ap, ◌∙◌}
use Rattle.dt_script.specs.GeneratedLines.{calling_lines, edit_lines, after_callers, after_edits}
use Rattle.dt_script.specs.GeneratedText.{text_of_lines}
use Rattle.dt_script.proofs.Joined.{on_ok}
use Rattle.dt_script.proofs.GeneratedWhole.{phases_put}
use Rattle.dt_script.proofs.generated_script.push_phases.Goals as goal

pub returns : goal.returns
returns c = on_ok c.push.result c.push.ensures (λ is.
    phases_put c.args.text.now.items c.push_callers.new.text.items c.push_edits.new.text.items c.push_callers-2.new.text.items c.push.new.text.items
    (calling_lines c.args.size.classes c.args.size.selectors c.args.draws.now)
    (edit_lines (λ n. get_or c.args.firsts.now n 0) (λ n. get_or c.args.tuples.now n []) c.args.size.classes c.args.size.selectors (after_callers c.args.size.selectors c.args.draws.now))
    (calling_lines c.args.size.classes c.args.size.selectors (after_edits (after_callers c.args.size.selectors c.args.draws.now)))
    c.in_ok-push_callers.ensures.text
    (c.in_ok-push_edits.ensures.text ∙ ap (λ s. c.push_callers.new.text.items ++ text_of_lines (edit_lines (λ n. get_or c.args.firsts.now n 0) (λ n. get_or c.args.tuples.now n []) c.args.size.classes c.args.size.selectors s)) c.in_ok-push_callers.ensures.state)
    (c.in_ok-push_callers-2.ensures.text ∙ ap (λ s. c.push_edits.new.text.items ++ text_of_lines (calling_lines c.args.size.classes c.args.size.selectors s)) (c.in_ok-push_edits.ensures.state ∙ ap after_edits c.in_ok-push_callers.ensures.state))
    is)
