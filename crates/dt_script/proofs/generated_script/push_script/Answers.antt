use Rattle.std.proofs.Common.{◌≡◌, ◌++◌, ◌∙◌, ap, sym, subst}
use Rattle.dt_script.specs.GeneratedLines.{definition_count, after_classes, after_program, program_lines, phase_lines, first_parent, tuple_at}
use Rattle.dt_script.specs.GeneratedLists.{HasFirstParents, HasTuples}
use Rattle.dt_script.specs.GeneratedText.{text_of_lines, generated_text}
use Rattle.dt_script.proofs.Joined.{on_ok}
use Rattle.dt_script.proofs.GeneratedWhole.{whole_put, kept_phases}
use Rattle.dt_script.proofs.generated_script.push_script.Goals as goal

pub returns : goal.returns
returns c = on_ok c.push_phases.result c.push_phases.ensures (λ is.
    let firsts = subst (λ l. HasFirstParents c.new-draws.result c.args.size.classes l) (sym c.deref.ensures.value) c.in_ok-push_program.ensures.firsts in
    let tuples = subst (λ l. HasTuples c.args.size.classes c.args.size.selectors (after_classes c.new-draws.result c.args.size.classes) (definition_count c.args.size.selectors) l) (sym c.deref-2.ensures.value) c.in_ok-push_program.ensures.tuples in
    subst (λ n. c.push_phases.new.text.items ≡ c.args.text.now.items ++ generated_text n c.args.size.classes c.args.size.selectors) c.new-draws.ensures
    (whole_put c.args.text.now.items c.push_program.new.text.items c.push_phases.new.text.items
    (program_lines c.new-draws.result c.args.size.classes c.args.size.selectors)
    (phase_lines (first_parent c.new-draws.result) (tuple_at c.args.size.classes c.args.size.selectors (after_classes c.new-draws.result c.args.size.classes)) c.args.size.classes c.args.size.selectors (after_program c.new-draws.result c.args.size.classes c.args.size.selectors))
    c.in_ok-push_program.ensures.text
    (is ∙ ap (λ l. c.push_program.new.text.items ++ text_of_lines l) (kept_phases c.new-draws.result c.args.size.classes c.args.size.selectors c.push_program.new.draws c.deref.result.now c.deref-2.result.now
    c.args.size.in_range firsts tuples c.in_ok-push_program.ensures.state))))
