use Rattle.std.proofs.Common.{ap, sym, ◌∙◌, unwrap_or}
use Rattle.std.specs.FinMap.{get}
use Rattle.dt_pages.specs.Image.{look_up}
use Rattle.dt_pages.specs.TreeForm.{word_of_tree}
use Rattle.dt_pages.proofs.Images.{look_up_of}
use Rattle.dt_pages.proofs.tree.Tree.adopt.Goals as goal

pub returns : goal.returns
returns c = λ address low. look_up_of (word_of_tree c.lay_changes.new.middles.items) address low ∙ c.lay_changes.ensures.words address low
    ∙ ap (unwrap_or (get c.args.changes.now address)) (sym (look_up_of (word_of_tree c.self.inside.middles.items) address low) ∙ ap (λ image. look_up image address) c.self.view_is)
