use Rattle.dt_propagate.proofs.NoSizes.{empty_has_none}
use Rattle.dt_propagate.proofs.sizes.Sizes.none.Goals as goal

pub returns : goal.returns
returns c = empty_has_none (record { cells = 0; rows = 0 })
