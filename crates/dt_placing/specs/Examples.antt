-- Two batches, worked out: a selector that moves to another colour, and one that moves to another displacement.
use Rattle.std.specs.Prelude.{◌≡◌, ℕ, ◌==◌, true, false, if◌then◌else◌, List, [], ◌∷◌, refl}
use Rattle.dt_pages.specs.Reading.{Reading}
use Rattle.dt_scratch.specs.declared.reply.Answer.TheVariants.{Method, NotUnderstood}
use Rattle.dt_scratch.specs.declared.reply.Reply.TheVariants.{Answered}
use Rattle.dt_cells.specs.Cell.{cell_word}
use Rattle.dt_cells.specs.Find.{found}
use Rattle.dt_fit.specs.declared.geometry.Geometry.TheVariants.{Colours, Displacements}
use Rattle.dt_fit.specs.Fits.{fits}
use Rattle.dt_fit.specs.Rows.{rows_use}
use Rattle.dt_placing.specs.Rows.{single}
use Rattle.dt_placing.specs.Placing.{cell_at, owns, tag_of, placing}

-- a reading by the words that are set
abbrev pub words : List (ℕ × ℕ) → Reading
words [] address = 0
words (set ∷ sets) address = if address == set.0 then set.1 else words sets address

the_first_colour : cell_at Colours 0 0 ≡ 16777216
the_first_colour = refl

the_second_colour : cell_at Colours 1 2 ≡ 16779266
the_second_colour = refl

a_displacement : cell_at Displacements 2 1 ≡ 16777219
a_displacement = refl

past_the_last_cell : owns 33554432 ≡ false
past_the_last_cell = refl

-- ---- colours: class 2 gets both selector 0, which has class 0, and selector 1, which has class 1

-- selector 0 stays, since the cell of class 2 in colour 0 is unused; then it is used
the_first_stays : fits Colours (rows_use Colours (record { place = 0; indexes = 1 ∷ [] } ∷ [])) (0 ∷ 2 ∷ []) 0 ≡ true
the_first_stays = refl

the_second_can_not : fits Colours (rows_use Colours (record { place = 0; indexes = 0 ∷ 2 ∷ [] } ∷ [])) (1 ∷ 2 ∷ []) 0 ≡ false
the_second_can_not = refl

the_second_moves : fits Colours (rows_use Colours (record { place = 0; indexes = 0 ∷ 2 ∷ [] } ∷ [])) (1 ∷ 2 ∷ []) 1 ≡ true
the_second_moves = refl

-- the words after
abbrev pub two_colours : Reading
two_colours = words ((0, 1) ∷ (1, 1) ∷ (2, 1) ∷ (4096, 1) ∷ (4097, 1) ∷ (8192, 1) ∷ (8193, 2)
    ∷ (16777216, 4294967298) ∷ (16777218, 4294967298) ∷ (16779265, 8589934595) ∷ (16779266, 8589934595) ∷ [])

the_cell_of_the_first : two_colours (cell_at Colours 0 2) ≡ cell_word (tag_of 0) (Method 0)
the_cell_of_the_first = refl

the_cell_of_the_second : two_colours (cell_at Colours 1 2) ≡ cell_word (tag_of 1) (Method 1)
the_cell_of_the_second = refl

the_old_cell_of_the_second : two_colours (cell_at Colours 0 1) ≡ 0
the_old_cell_of_the_second = refl

the_first_is_answered : found (placing Colours) two_colours (single 0 2) ≡ Answered (Method 0)
the_first_is_answered = refl

the_second_is_answered : found (placing Colours) two_colours (single 1 2) ≡ Answered (Method 1)
the_second_is_answered = refl

the_first_has_no_other : found (placing Colours) two_colours (single 0 1) ≡ Answered NotUnderstood
the_first_has_no_other = refl

-- ---- displacements: selectors 0 and 1 have class 0, and selector 0 gets class 1

-- cell 1 is used by selector 1, so that selector 0 fits at neither 0 nor 1
not_at_its_place : fits Displacements (rows_use Displacements (record { place = 1; indexes = 0 ∷ [] } ∷ [])) (0 ∷ 1 ∷ []) 0 ≡ false
not_at_its_place = refl

not_at_the_next : fits Displacements (rows_use Displacements (record { place = 1; indexes = 0 ∷ [] } ∷ [])) (0 ∷ 1 ∷ []) 1 ≡ false
not_at_the_next = refl

at_the_third : fits Displacements (rows_use Displacements (record { place = 1; indexes = 0 ∷ [] } ∷ [])) (0 ∷ 1 ∷ []) 2 ≡ true
at_the_third = refl

-- the words after
abbrev pub two_rows : Reading
two_rows = words ((0, 1) ∷ (1, 1) ∷ (4096, 1) ∷ (4097, 1) ∷ (8192, 3) ∷ (8193, 2)
    ∷ (16777217, 8589934595) ∷ (16777218, 4294967298) ∷ (16777219, 4294967300) ∷ [])

the_cell_of_its_first_class : two_rows (cell_at Displacements 2 0) ≡ cell_word (tag_of 0) (Method 0)
the_cell_of_its_first_class = refl

the_cell_of_its_second_class : two_rows (cell_at Displacements 2 1) ≡ cell_word (tag_of 0) (Method 2)
the_cell_of_its_second_class = refl

its_old_cell : two_rows (cell_at Displacements 0 0) ≡ 0
its_old_cell = refl

-- the cell that is read for class 1 is one of selector 0
another_row_is_met : found (placing Displacements) two_rows (single 1 1) ≡ Answered NotUnderstood
another_row_is_met = refl

its_first_class : found (placing Displacements) two_rows (single 0 0) ≡ Answered (Method 0)
its_first_class = refl

its_second_class : found (placing Displacements) two_rows (single 0 1) ≡ Answered (Method 2)
its_second_class = refl
