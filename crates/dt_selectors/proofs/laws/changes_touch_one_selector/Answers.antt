use Rattle.dt_selectors.proofs.Arities.{adding, dropping}
use Rattle.dt_selectors.proofs.laws.changes_touch_one_selector.Goals as goal

pub returns : goal.returns
returns c = record { add = adding; drop = dropping }
