use Rattle.dt_selectors.proofs.LawfulChanges.{empty_lawful, add_keeps, drop_keeps}
use Rattle.dt_selectors.proofs.laws.changes_keep_law.Goals as goal

pub returns : goal.returns
returns c = record { empty = empty_lawful; add = add_keeps; drop = drop_keeps }
