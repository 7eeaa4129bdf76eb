-- Selector table indexing can be the first kind of a pair.
use Rattle.std.proofs.Common.{◌≡◌, ℕ, ◌<◌, true, refl, arith}
use Rattle.dt_cells.specs.Pair.{IsForOneClass}
use Rattle.dt_sti.specs.Sti.{owns, sti}

below : (address : ℕ) → owns address ≡ true → address < 33554432
below address t = grind arith

pub sti_is_for_one_class : IsForOneClass sti
sti_is_for_one_class = record { arities = refl; begins = omega arith; region = below }
