use Rattle.std.proofs.Common.{ap, sym, ◌∙◌}
use Rattle.std.specs.FinMap.{get}
use Rattle.dt_pages.specs.TreeForm.{word_of_tree}
use Rattle.dt_pages.proofs.Images.{overlaid}
use Rattle.dt_pages.proofs.tree.Tree.overlay.Goals as goal

pub returns-clause-ok : goal.returns-clause-ok
returns-clause-ok c = overlaid c.args.draft (word_of_tree c.self.inside.middles.items) (word_of_tree c.make_rooms.new.middles.items) (word_of_tree c.lay_all.new.middles.items)
    c.args.self.now c.self.view_is c.in_ok-make_rooms.ensures.words c.lay_all.ensures.words
    (λ q past. ap (λ d. get d q) (sym c.draft.view_is) ∙ c.draft.invariant q past)
