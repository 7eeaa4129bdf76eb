-- Rows at their lowest places, worked out.
use Rattle.std.specs.Prelude.{◌≡◌, ℕ, ◌+◌, ◌*◌, Bool, true, false, ◌==◌, [], ◌∷◌, refl}
use Rattle.dt_fit.specs.declared.geometry.Geometry.TheVariants.{Colours, Displacements}
use Rattle.dt_fit.specs.Fits.{fits, fits_untaken}
use Rattle.dt_fit.specs.Rows.{rows_use}
use Rattle.dt_fit.specs.Cells.{bit_of}

-- three cells are used: 0, 2 and 3
abbrev three_used : ℕ → Bool
three_used = rows_use Displacements (record { place = 0; indexes = 0 ∷ 2 ∷ [] } ∷ record { place = 1; indexes = 2 ∷ [] } ∷ [])

displacement_0_is_used : fits Displacements three_used (0 ∷ 3 ∷ []) 0 ≡ false
displacement_0_is_used = refl

displacement_1_fits : fits Displacements three_used (0 ∷ 3 ∷ []) 1 ≡ true
displacement_1_fits = refl

displacement_1_is_taken : fits_untaken Displacements (λ place. place == 1) three_used (0 ∷ 3 ∷ []) 1 ≡ false
displacement_1_is_taken = refl

-- the second of two selectors finds the cell of class 1 in colour 0 used, and moves to colour 1
colour_0_is_used : fits Colours (rows_use Colours (record { place = 0; indexes = 0 ∷ 1 ∷ [] } ∷ [])) (1 ∷ []) 0 ≡ false
colour_0_is_used = refl

colour_1_fits : fits Colours (rows_use Colours (record { place = 0; indexes = 0 ∷ 1 ∷ [] } ∷ [])) (1 ∷ []) 1 ≡ true
colour_1_fits = refl

-- the cells of one class in neighbouring colours have neighbouring bits
neighbouring_colours : bit_of Colours (2048 * 6 + 3) ≡ bit_of Colours (2048 * 5 + 3) + 1
neighbouring_colours = refl
