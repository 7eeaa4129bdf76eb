use Rattle.std.proofs.Common.{◌++◌, ap, ◌∙◌}
use Rattle.dt_script.specs.GeneratedLines.{after_classes, class_lines, selector_lines, definition_lines}
use Rattle.dt_script.specs.GeneratedText.{text_of_lines}
use Rattle.dt_script.proofs.Joined.{on_ok}
use Rattle.dt_script.proofs.GeneratedWhole.{program_put}
use Rattle.dt_script.proofs.generated_script.push_program.Goals as goal

pub returns-clause-text : goal.returns-clause-text
returns-clause-text c = on_ok c.push_definitions.result c.push_definitions.ensures.text (λ is.
    program_put c.args.text.now.items c.push.new.text.items c.push_classes.new.text.items c.push_selectors.new.text.items c.push_definitions.new.text.items
    (class_lines c.args.draws.now c.args.size.classes) (selector_lines c.args.size.selectors) (definition_lines c.args.size.classes c.args.size.selectors (after_classes c.args.draws.now c.args.size.classes))
    c.in_ok-push.ensures c.in_ok-push_classes.ensures.text c.in_ok-push_selectors.ensures
    (is ∙ ap (λ s. c.push_selectors.new.text.items ++ text_of_lines (definition_lines c.args.size.classes c.args.size.selectors s)) c.in_ok-push_classes.ensures.state))
