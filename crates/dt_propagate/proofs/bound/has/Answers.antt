use Rattle.std.proofs.Common.{is_some, ap, ◌∙◌}
use Rattle.dt_definitions.proofs.DefinitionChanges.{some_body}
use Rattle.dt_definitions.specs.Program.{body_of}
use Rattle.dt_propagate.proofs.bound.has.Goals as goal

pub returns : goal.returns
returns c =
    let program = c.args.program.now in
    let key = c.args.key.now in
    c.is_some.ensures ∙ ap is_some c.body.ensures
    ∙ ap (λ classes. is_some (body_of program.definitions key.selector classes)) c.classes.ensures.value
    ∙ some_body key.selector key.classes program.definitions
