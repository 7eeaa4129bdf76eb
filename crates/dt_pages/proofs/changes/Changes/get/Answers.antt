use Rattle.std.proofs.Common.{◌∙◌, sym, ap}
use Rattle.std.specs.FinMap.{get}
use Rattle.dt_pages.proofs.Drafts.{got}
use Rattle.dt_pages.proofs.changes.Changes.get.Goals as goal

pub returns-in-Some : goal.returns-in-Some
returns-in-Some c = c.in-Some.ensures.value ∙ sym (got c.self.inside.values c.args.at) ∙ ap (λ m. get m c.args.at) c.self.view_is

pub returns-in-None : goal.returns-in-None
returns-in-None c = c.in-None.ensures.value ∙ sym (got c.self.inside.values c.args.at) ∙ ap (λ m. get m c.args.at) c.self.view_is
