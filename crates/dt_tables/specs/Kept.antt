-- How a program and its table are kept in step.
use Rattle.std.specs.Prelude.{◌≡◌, ℕ, nat_le, Bool}
use Rattle.dt_pages.specs.Reading.{Reading}
use Rattle.dt_definitions.specs.TwoPrograms.{Two}
use Rattle.dt_scratch.specs.declared.reply.Change.{Change}
use Rattle.dt_scratch.specs.Query.{arity_of_query}
use Rattle.dt_propagate.specs.Limits.{AreSizesOf, IsWithinLimits}
use Rattle.dt_propagate.specs.declared.sizes.Sizes.{Sizes}
use Rattle.dt_cells.specs.Held.{Held}
use Rattle.dt_cells.specs.Kind.{Kind}
use Rattle.dt_cells.specs.Following.{IsTableOf}

-- no batch is tried, and the value and the image are a table of the program that stands, which is within the limits
-- and has these sizes at most
pub record IsKept (k : Kind) (stands : Reading → Held → Type 0) (low : ℕ) (x : Reading) (two : Two) (sizes : Sizes) : Type 0 where
  pub held : Held
  pub table : IsTableOf k stands 1 x held two.stands
  pub least : low ≡ 1
  pub settled : two.tried ≡ two.stands
  pub within : IsWithinLimits two.stands
  pub bounded : AreSizesOf two.stands sizes

-- whether the kind covers the arity of the change's query
abbrev pub is_covered : ℕ → Change → Bool
is_covered most change = nat_le (arity_of_query change.query) most
