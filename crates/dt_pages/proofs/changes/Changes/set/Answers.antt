use Rattle.std.proofs.Common.{◌∙◌, ap}
use Rattle.std.specs.FinMap.{insert}
use Rattle.dt_pages.proofs.Drafts.{set_one}
use Rattle.dt_pages.proofs.changes.Changes.set.Goals as goal

pub returns : goal.returns
returns c = set_one c.self.inside.values c.insert.new.self c.args.at c.args.value c.in_ok-insert.ensures.updates.0
    ∙ ap (λ m. insert m c.args.at c.args.value) c.self.view_is
