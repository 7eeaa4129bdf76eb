use Rattle.std.proofs.Common.{ap, ◌∙◌}
use Rattle.std.specs.FinMap.{insert}
use Rattle.dt_pages.proofs.Drafts.{set_one, set_within, set_reads}
use Rattle.dt_pages.proofs.draft.Draft.set.Goals as goal

pub invariant_of-self-2 : goal.invariant_of-self-2
invariant_of-self-2 c = set_within c.self.inside.words c.insert.new.self c.args.at c.args.word c.requires c.in_ok-insert.ensures.updates.0 c.self.invariant

pub returns-clause-ok : goal.returns-clause-ok
returns-clause-ok c = set_one c.self.inside.words c.insert.new.self c.args.at c.args.word c.in_ok-insert.ensures.updates.0
    ∙ ap (λ m. insert m c.args.at c.args.word) c.self.view_is

pub returns-clause-reads : goal.returns-clause-reads
returns-clause-reads c = λ base address. set_reads c.args.self.now _ c.args.at c.args.word base address
    (set_one c.self.inside.words c.insert.new.self c.args.at c.args.word c.in_ok-insert.ensures.updates.0
    ∙ ap (λ m. insert m c.args.at c.args.word) c.self.view_is)
