use Rattle.std.proofs.Common.{ap, ◌∙◌}
use Rattle.std.specs.Box.{boxed_slice_items}
use Rattle.dt_selectors.specs.Names.{position_of}
use Rattle.dt_selectors.proofs.Texts.{position_of-position}
use Rattle.dt_selectors.proofs.names.Names.position.Goals as goal

pub returns : goal.returns
returns c =
    c.in_ok-position.ensures.index ∙ position_of-position boxed_slice_items c.args.text.now c.self.inside.texts.keys
    ∙ ap (λ names. position_of c.args.text.now names.texts) c.self.view_is

pub returns-in_err-position : goal.returns-in_err-position
returns-in_err-position c =
    c.from_residual.ensures ∙ c.in_err-position.ensures.index
    ∙ position_of-position boxed_slice_items c.args.text.now c.self.inside.texts.keys
    ∙ ap (λ names. position_of c.args.text.now names.texts) c.self.view_is
