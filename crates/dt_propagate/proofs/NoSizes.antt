-- The empty program has neither cells nor rows.
use Rattle.std.proofs.Common.{ℕ, [], ◌∷◌, refl, arith}
use Rattle.std.proofs.lemmas.List.Elements.{All-head}
use Rattle.dt_definitions.specs.Program.{empty_program}
use Rattle.dt_scratch.specs.Query.{Query, query_order}
use Rattle.dt_propagate.specs.Differences.{MoreThan}
use Rattle.dt_propagate.specs.Limits.{AreSizesOf}
use Rattle.dt_propagate.specs.Understood.{Understands, IsRow}
use Rattle.dt_propagate.specs.declared.sizes.Sizes.{Sizes}

none_of : (Holds : Query → Type 0) → ((query : Query) → Holds query → ⊥) → (n : ℕ) → MoreThan query_order Holds n → ⊥
none_of Holds none n ([], ascending, all, more) = absurd (omega (arith, more))
none_of Holds none n (query ∷ some, ascending, all, more) = none query (All-head Holds query some all)

pub empty_has_none : (sizes : Sizes) → AreSizesOf empty_program sizes
empty_has_none sizes = record {
  few_cells = none_of (Understands empty_program) (λ query understood. understood refl) sizes.cells;
  few_rows = none_of (IsRow empty_program) (λ query row. row.1.understood refl) sizes.rows;
}
