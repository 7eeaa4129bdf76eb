-- A value that keeps nothing stands for the empty reading.
use Rattle.std.proofs.Common.{◌≡◌, ◌==◌, ℕ, ◌+◌, ◌≤◌, [], Bool, true, false, ◌&&◌, not, None, length, get_or, inr, refl, sym, ◌∙◌}
use Rattle.std.proofs.lemmas.Bool.{true≢false}
use Rattle.dt_pages.specs.Reading.{blank}
use Rattle.dt_cells.specs.Held.{none_held, Row}
use Rattle.dt_fit.specs.Cells.{is_kept}
use Rattle.dt_fit.specs.declared.geometry.Geometry.TheVariants.{Displacements}
use Rattle.dt_mrd.specs.declared.kept_rows.KeptRows.{KeptRows}
use Rattle.dt_mrd.specs.Rows.{IsRow}
use Rattle.dt_mrd.specs.Reading.{owns}
use Rattle.dt_mrd.specs.MrdLaws.{mrd_is_lawful}
use Rattle.dt_mrd.specs.Kept.{Stands}

no_row : (row : Row) → IsRow none_held row → ⊥
no_row row is = is.1.1 refl

pub stands_empty : (kept : KeptRows) → 1 ≤ kept.least → length kept.roots.items ≡ 4096 → ((at : ℕ) → get_or kept.roots.items at None ≡ None)
    → kept.cells.geometry ≡ Displacements → kept.taken.geometry ≡ Displacements
    → ((cell : ℕ) → is_kept kept.cells cell ≡ false) → ((displacement : ℕ) → is_kept kept.taken displacement ≡ false) → Stands kept blank none_held
stands_empty kept some count none cells taken unused untaken = record {
  shows = mrd_is_lawful.blank_shows_none;
  some = some;
  least = λ q h. absurd (h refl);
  count = count;
  rows = record {
    roots_are = λ selector below. inr (no_row (selector, []), none selector);
    row = λ row is. absurd (no_row row is);
    not_free = λ row key is e free. no_row row is;
  };
  displacements = (cells, taken);
  cells = λ cell. unused cell ∙ sym (never (owns (67108864 + cell)));
  taken = record {
    of_rows = λ row is displacement e. absurd (no_row row is);
    no_other = λ displacement e. absurd (true≢false (sym e ∙ untaken displacement));
  };
}
  where
    never : (b : Bool) → (b && not (0 == 0)) ≡ false
    never true = refl
    never false = refl
