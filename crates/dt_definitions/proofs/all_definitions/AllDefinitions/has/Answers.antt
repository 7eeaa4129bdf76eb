use Rattle.std.proofs.Common.{is_some, ap, ◌∙◌}
use Rattle.dt_definitions.proofs.DefinitionChanges.{some_body}
use Rattle.dt_definitions.proofs.all_definitions.AllDefinitions.has.Goals as goal

pub returns : goal.returns
returns c = c.is_some.ensures ∙ ap is_some c.body.ensures ∙ some_body c.args.selector c.args.classes.now c.args.self.now.all
