use Rattle.dt_pages.specs.Image.{look_up}
use Rattle.std.proofs.Common.{◌∙◌}
use Rattle.dt_pages.proofs.Drafts.{read_some, read_none}
use Rattle.dt_pages.proofs.draft.Draft.word.Goals as goal

pub returns-in-Some : goal.returns-in-Some
returns-in-Some c = read_some c.self.inside.words c.args.self.now (look_up c.args.tree.now) c.args.at c.in-Some.word.now c.self.view_is c.in-Some.ensures.value

pub returns-in-None : goal.returns-in-None
returns-in-None c = c.word.ensures ∙ read_none c.self.inside.words c.args.self.now (look_up c.args.tree.now) c.args.at c.self.view_is c.in-None.ensures.value
