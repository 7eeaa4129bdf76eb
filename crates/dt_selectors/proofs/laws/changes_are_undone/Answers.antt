use Rattle.dt_selectors.proofs.Undoing.{adding_undone, dropping_undone}
use Rattle.dt_selectors.proofs.laws.changes_are_undone.Goals as goal

pub returns : goal.returns
returns c = record { add = adding_undone; drop = dropping_undone }
