use Rattle.std.proofs.Common.{◌==◌, ap, ◌∙◌, if◌then◌else◌}
use Rattle.dt_pages.specs.Image.{look_up}
use Rattle.dt_pages.specs.Draft.{laid_over}
use Rattle.dt_cells.proofs.place_words.put_word.Goals as goal

pub returns-in_ok-set : goal.returns-in_ok-set
returns-in_ok-set c = λ address. c.in_ok-set.ensures.reads (look_up c.args.tree.now) address
    ∙ ap (λ n. if address == n then c.args.word else laid_over c.args.draft.now (look_up c.args.tree.now) address) c.place_address-at.ensures
