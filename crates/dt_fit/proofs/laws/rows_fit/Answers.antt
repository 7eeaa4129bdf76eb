use Rattle.std.proofs.Common.{arith}
use Rattle.dt_fit.specs.declared.geometry.Geometry.TheVariants.{Colours, Displacements}
use Rattle.dt_fit.specs.Geometry.{spread_of}
use Rattle.dt_fit.specs.Fits.{fits, fits_untaken}
use Rattle.std.proofs.Common.{◌*◌, ◌+◌, ◌-◌, ◌^◌, length}
use Rattle.dt_fit.proofs.Counting.{row_fits, row_fits_only, wider, past_all_fits}
use Rattle.dt_fit.proofs.laws.rows_fit.Goals as goal

pub returns : goal.returns
returns c = record {
  past = past_all_fits;
  rows = row_fits;
  colours = λ rows used indexes few are_rows are_indexes cells.
      wider (fits Colours used indexes) (spread_of Colours * length rows + 1) 4096 (omega (arith, few)) (row_fits_only Colours rows used indexes are_rows are_indexes cells);
  displacements = λ rows used indexes few are_rows are_indexes cells.
      wider (fits Displacements used indexes) (spread_of Displacements * length rows + 1) (2 ^ 24 - 2048) (omega (arith, few)) (row_fits_only Displacements rows used indexes are_rows are_indexes cells);
  many = λ rows taken used indexes few are_rows are_indexes places cells.
      wider (fits_untaken Displacements taken used indexes) (spread_of Displacements * length rows + 1) (2 ^ 26 - 2048) (omega (arith, few)) (row_fits Displacements rows taken used indexes are_rows are_indexes places cells);
}
