use Rattle.std.proofs.Common.{rules, ap, ◌∙◌}
use Rattle.dt_selectors.specs.Rows.{selectors_from}
use Rattle.dt_selectors.proofs.Rows.{selectors_from-replicate}
use Rattle.dt_selectors.proofs.selectors.Selectors.new.Goals as goal

pub returns : goal.returns
returns c = ap (selectors_from 0) (c.in_ok-rows.ensures.items_if_clones_equal (λ y clone. search rules)) ∙ selectors_from-replicate 0 c.from.result
