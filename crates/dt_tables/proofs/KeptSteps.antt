-- A program and its table stay in step.
use Rattle.std.proofs.Common.{◌≡◌, ℕ, ◌<◌, List, [], ◌∷◌, length, refl, sym, subst, ◌∙◌, arith, All}
use Rattle.std.proofs.lemmas.List.Elements.{All-head}
use Rattle.dt_pages.specs.Reading.{Reading}
use Rattle.dt_definitions.specs.Program.{Program, empty_program}
use Rattle.dt_definitions.specs.Lawful.{Lawful}
use Rattle.dt_definitions.specs.TwoPrograms.{Two, IsSettledAt}
use Rattle.dt_scratch.specs.CellLaws.{UnderstoodCells}
use Rattle.dt_scratch.specs.Query.{Query}
use Rattle.dt_propagate.specs.Limits.{AreSizesOf, IsWithinLimits}
use Rattle.dt_propagate.specs.declared.sizes.Sizes.{Sizes}
use Rattle.dt_propagate.specs.Understood.{Understands, IsRow}
use Rattle.dt_propagate.specs.declared.limits.TheConstants.{CELLS, ROWS}
use Rattle.dt_cells.specs.Held.{Held}
use Rattle.dt_cells.specs.Kind.{Kind, IsLawful}
use Rattle.dt_cells.specs.Serving.{Serves}
use Rattle.dt_cells.specs.Following.{IsTableOf}
use Rattle.dt_cells.proofs.BatchSteps.{table_serves}
use Rattle.dt_tables.specs.Kept.{IsKept}

none_of : (Holds : Query → Type 0) → ((query : Query) → Holds query → ⊥) → (some : List Query) → All Holds some → (n : ℕ) →
    n < length some → ⊥
none_of Holds none [] all n more = absurd (omega (arith, more))
none_of Holds none (query ∷ some) all n more = none query (All-head Holds query some all)

pub empty_within : IsWithinLimits empty_program
empty_within = record {
  few_cells = λ more. none_of (Understands empty_program) (λ query understood. understood refl) more.0 more.2 CELLS more.3;
  few_rows = λ more. none_of (IsRow empty_program) (λ query row. row.1.understood refl) more.0 more.2 ROWS more.3;
}

-- a table of the program at which both are settled is kept in step
pub kept : (k : Kind) (stands : Reading → Held → Type 0) (low : ℕ) (x : Reading) (held : Held) (p : Program) (two : Two) (sizes : Sizes)
    → IsSettledAt p two → low ≡ 1 → IsTableOf k stands 1 x held p → IsWithinLimits p → AreSizesOf p sizes → IsKept k stands low x two sizes
kept k stands low x held p two sizes settled least table within bounded = record {
  held = held;
  table = subst (λ q. IsTableOf k stands 1 x held q) (sym settled.0) table;
  least = least;
  settled = settled.1 ∙ sym settled.0;
  within = subst IsWithinLimits (sym settled.0) within;
  bounded = subst (λ q. AreSizesOf q sizes) (sym settled.0) bounded;
}

-- what is kept serves the program that stands
pub kept_serves : (k : Kind) (l : IsLawful k) (understood : UnderstoodCells) (stands : Reading → Held → Type 0) (low : ℕ) (x : Reading) (two : Two)
    (sizes : Sizes) → (kept : IsKept k stands low x two sizes) → Lawful two.stands → k.shows x kept.held → Serves 1 k two.stands x
kept_serves k l understood stands low x two sizes kept lawful sh =
    table_serves k l understood stands 1 x kept.held two.stands (omega arith) lawful sh kept.table
