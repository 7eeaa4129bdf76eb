-- Worked examples of limits and of counted steps.
use Rattle.std.specs.Prelude.{◌≡◌, ℕ, ◌-◌, ◌^◌, List, [], ◌∷◌, All, ◌<◌, length, refl}
use Rattle.std.proofs.Common.{arith}
use Rattle.std.proofs.lemmas.List.Elements.{All-nil, All-cons, All-head}
use Rattle.dt_definitions.specs.Program.{Program, empty_program}
use Rattle.dt_scratch.specs.Query.{Query}
use Rattle.dt_scratch.specs.Examples.{B, C, D, f, asks, diamond}
use Rattle.dt_propagate.specs.Counted.{CountsAt, CountsOn, greatest}
use Rattle.dt_propagate.specs.Limits.{AreSizesOf, HasMoreCells, HasMoreRows, HasMoreRowsAlone, IsWithinLimits, IsFullBy}
use Rattle.dt_propagate.specs.Understood.{Understands, IsRow}
use Rattle.dt_propagate.specs.declared.limits.TheConstants.{CELLS, ROWS}
use Rattle.dt_propagate.specs.declared.change_fault.ChangeFault.TheVariants.{CellsFull, RowsFull, NoMemory}

cells : CELLS ≡ 4194304
cells = refl

rows : ROWS ≡ 16384
rows = refl

none_of : (Holds : Query → Type 0) → ((query : Query) → Holds query → ⊥) → (some : List Query) → All Holds some → (n : ℕ) →
    n < length some → ⊥
none_of Holds none [] all n more = absurd (omega (arith, more))
none_of Holds none (query ∷ some) all n more = none query (All-head Holds query some all)

-- the empty program understands nothing, so it is within the limits and passes neither
no_cell : HasMoreCells empty_program → ⊥
no_cell more = none_of (Understands empty_program) (λ query understood. understood refl) more.0 more.2 CELLS more.3

no_row : HasMoreRows empty_program → ⊥
no_row more = none_of (IsRow empty_program) (λ query row. row.1.understood refl) more.0 more.2 ROWS more.3

empty_is_within : IsWithinLimits empty_program
empty_is_within = record { few_cells = no_cell; few_rows = no_row }

empty_passes_none : IsFullBy empty_program RowsFull → ⊥
empty_passes_none full = no_row full.more_rows

-- what each answer says of a program: rows are told where cells don't pass, and want of memory says nothing
cells_pass : (program : Program) → HasMoreCells program → IsFullBy program CellsFull
cells_pass program more = more

cells_before_rows : (program : Program) → HasMoreCells program → IsFullBy program RowsFull → ⊥
cells_before_rows program more full = full.few_cells more

memory_says_nothing : IsFullBy empty_program NoMemory
memory_says_nothing = tt

-- no number is too few for the empty program, and two cells are too few for the diamond, which is understood at B, C and D
sizes_of_none : AreSizesOf empty_program (record { cells = 0; rows = 0 })
sizes_of_none = record {
  few_cells = λ more. none_of (Understands empty_program) (λ query understood. understood refl) more.0 more.2 0 more.3;
  few_rows = λ more. none_of (IsRow empty_program) (λ query row. row.1.understood refl) more.0 more.2 0 more.3;
}

understood_at_b : Understands diamond (asks f B)
understood_at_b none = cc

understood_at_c : Understands diamond (asks f C)
understood_at_c none = cc

understood_at_d : Understands diamond (asks f D)
understood_at_d none = cc

two_are_too_few : AreSizesOf diamond (record { cells = 2; rows = 9 }) → ⊥
two_are_too_few are = are.few_cells (
  asks f B ∷ asks f C ∷ asks f D ∷ [],
  (refl, (refl, tt)),
  All-cons (Understands diamond) (asks f B) (asks f C ∷ asks f D ∷ []) understood_at_b
      (All-cons (Understands diamond) (asks f C) (asks f D ∷ []) understood_at_c
      (All-cons (Understands diamond) (asks f D) [] understood_at_d (All-nil (Understands diamond)))),
  omega arith,
)

-- and it has a row, of the selector alone
row_of_f : IsRow diamond (record { selector = f; classes = [] })
row_of_f = (D ∷ [], record { some = λ none. cc; understood = understood_at_d })

none_is_too_few : AreSizesOf diamond (record { cells = 9; rows = 0 }) → ⊥
none_is_too_few are = are.few_rows (
  record { selector = f; classes = [] } ∷ [],
  tt,
  All-cons (IsRow diamond) (record { selector = f; classes = [] }) [] row_of_f (All-nil (IsRow diamond)),
  omega arith,
)

-- at a limit no step is counted
none_at_a_limit : CountsAt CellsFull 3 3
none_at_a_limit = refl

one_at_a_limit : CountsAt RowsFull 3 4 → ⊥
one_at_a_limit same = absurd (omega (arith, same))

-- and some may be where memory was wanted
two_without_memory : CountsAt NoMemory 3 5
two_without_memory = omega arith

none_taken_back : CountsAt NoMemory 5 3 → ⊥
none_taken_back fewer = absurd (omega (arith, fewer))

-- two steps more, and a count that has no more numbers
two_more : CountsOn 3 5 0 2
two_more = record { grows = omega arith; counts_on = refl }

all_bits : greatest ≡ 2 ^ 64 - 1
all_bits = refl

at_the_end : CountsOn 3 5 18446744073709551614 greatest
at_the_end = record { grows = omega arith; counts_on = refl }
