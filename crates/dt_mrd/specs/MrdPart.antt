-- Multiple row displacement may be the part of a pair that is for queries of more classes.
use Rattle.std.proofs.Common.{◌≡◌, ℕ, ◌^◌, ◌≤◌, true, refl, arith}
use Rattle.dt_cells.specs.Pair.{IsForMoreClasses}
use Rattle.dt_mrd.specs.Reading.{owns}
use Rattle.dt_mrd.specs.Placing.{mrd}

from_master : (address : ℕ) → owns address ≡ true → 2 ^ 26 ≤ address
from_master address is = grind arith

pub mrd_is_for_more_classes : IsForMoreClasses mrd
mrd_is_for_more_classes = record { arities = refl; begins = omega arith; region = from_master }
