use Rattle.dt_script.proofs.WrittenTexts.{first_word, other_arrow}
use Rattle.dt_script.proofs.written.define_line.Goals as goal

pub returns-then-not-leads : goal.returns-then-not-leads
returns-then-not-leads c = λ (selector, classes, body, spelled, few).
    let words = rw c.in_ok-classes.was at (c.classes_and_body.ensures _ c.words_of.ensures) in
    let leads = c.is_word-leads.ensures.1 (other_arrow _ _ _ _ _ _ _ _ _ (first_word c.args.rest.now c.cut_word.result.0.now c.cut_word.result.1 c.cut_word.ensures) words spelled) in
    absurd cc
