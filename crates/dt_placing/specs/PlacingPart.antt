-- A kind that places selectors as a whole can be the first of a pair.
use Rattle.std.proofs.Common.{◌≡◌, ℕ, ◌<◌, true, refl, arith}
use Rattle.dt_cells.specs.Pair.{IsForOneClass}
use Rattle.dt_fit.specs.declared.geometry.Geometry.{Geometry}
use Rattle.dt_placing.specs.Placing.{owns, placing}

below : (address : ℕ) → owns address ≡ true → address < 33554432
below address t = grind arith

pub placing_is_for_one_class : (geometry : Geometry) → IsForOneClass (placing geometry)
placing_is_for_one_class geometry = record { arities = refl; begins = omega arith; region = below }
