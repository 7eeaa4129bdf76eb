-- Two programs: the one that stands, and the one after a batch that is tried.
use Rattle.std.specs.Prelude.{◌≡◌}
use Rattle.dt_definitions.specs.Program.{Program}

pub record Two : Type 0 where
  pub stands : Program
  pub tried : Program

-- no batch is tried, or it changes nothing: both are this program
abbrev pub IsSettledAt : Program → Two → Type 0
IsSettledAt p two = (two.stands ≡ p) × (two.tried ≡ p)
