-- A selector of two arguments, worked out word by word.
use Rattle.std.specs.Prelude.{◌≡◌, ℕ, ◌==◌, true, false, if◌then◌else◌, List, [], ◌∷◌, refl}
use Rattle.dt_pages.specs.Reading.{Reading}
use Rattle.dt_scratch.specs.declared.reply.Answer.TheVariants.{Method, NotUnderstood, Ambiguous}
use Rattle.dt_scratch.specs.declared.reply.Reply.TheVariants.{Answered, NoSelector, WrongArity, NoClass}
use Rattle.dt_cells.specs.Held.{Row}
use Rattle.dt_cells.specs.Find.{found}
use Rattle.dt_fit.specs.declared.geometry.Geometry.TheVariants.{Displacements}
use Rattle.dt_fit.specs.Fits.{fits, fits_untaken}
use Rattle.dt_fit.specs.Rows.{PlacedRow, rows_use}
use Rattle.dt_mrd.specs.Rows.{sent, root, comes_before}
use Rattle.dt_mrd.specs.Reading.{cell_at, tag_read, way_along}
use Rattle.dt_mrd.specs.Placing.{mrd}

-- a reading by the words that are set
abbrev words : List (ℕ × ℕ) → Reading
words [] address = 0
words (set ∷ sets) address = if address == set.0 then set.1 else words sets address

-- a thing 0, a rock 1 and a ship 2; selector 0, to collide, is understood by a thing or a rock with a ship (body 0), by a
-- ship with a thing or a rock (body 1), and by two ships in two ways
abbrev collisions : Reading
collisions = words ((0, 1) ∷ (1, 1) ∷ (2, 1) ∷ (4096, 2) ∷ (8192, 8)
    ∷ (67108866, 4294967298) ∷ (67108867, 8589934594)
    ∷ (67108868, 21474836483) ∷ (67108869, 21474836483) ∷ (67108870, 21474836481)
    ∷ (67108871, 34359738369) ∷ (67108872, 34359738370) ∷ (67108873, 34359738373) ∷ [])

-- ---- the order: the rows of the thing, the rock and the ship, and then the row of the empty prefix

thing : Row
thing = (0, 0 ∷ [])

the_rock_after_the_thing : comes_before (0, 0 ∷ []) (0, 1 ∷ []) ≡ true
the_rock_after_the_thing = refl

the_empty_prefix_last : comes_before (0, 2 ∷ []) (root 0) ≡ true
the_empty_prefix_last = refl

not_the_empty_prefix_first : comes_before (root 0) (0, 2 ∷ []) ≡ false
not_the_empty_prefix_first = refl

selectors_ascending : comes_before (root 0) (1, 2 ∷ []) ≡ true
selectors_ascending = refl

not_before_itself : comes_before (0, 2 ∷ []) (0, 2 ∷ []) ≡ false
not_before_itself = refl

-- ---- the displacements: a row beside those that were placed before it

abbrev at : ℕ → List ℕ → PlacedRow
at place indexes = record { place = place; indexes = indexes }

-- the row of the thing has the index 2 and gets displacement 0, so that cell 2 is used; that of the rock has the same index
the_rock_not_at_0 : fits Displacements (rows_use Displacements (at 0 (2 ∷ []) ∷ [])) (2 ∷ []) 0 ≡ false
the_rock_not_at_0 = refl

the_rock_at_1 : fits_untaken Displacements (λ place. place == 0) (rows_use Displacements (at 0 (2 ∷ []) ∷ [])) (2 ∷ []) 1 ≡ true
the_rock_at_1 = refl

-- the row of the ship has the indexes 0, 1 and 2, and cells 2 and 3 are used
the_ship_not_at_3 : fits Displacements (rows_use Displacements (at 0 (2 ∷ []) ∷ at 1 (2 ∷ []) ∷ [])) (0 ∷ 1 ∷ 2 ∷ []) 3 ≡ false
the_ship_not_at_3 = refl

the_ship_at_4 : fits Displacements (rows_use Displacements (at 0 (2 ∷ []) ∷ at 1 (2 ∷ []) ∷ [])) (0 ∷ 1 ∷ 2 ∷ []) 4 ≡ true
the_ship_at_4 = refl

-- and so has the row of the empty prefix, with cells 4 to 6 used, too
the_empty_prefix_not_at_6 : fits Displacements (rows_use Displacements (at 0 (2 ∷ []) ∷ at 1 (2 ∷ []) ∷ at 4 (0 ∷ 1 ∷ 2 ∷ []) ∷ [])) (0 ∷ 1 ∷ 2 ∷ []) 6 ≡ false
the_empty_prefix_not_at_6 = refl

the_empty_prefix_at_7 : fits Displacements (rows_use Displacements (at 0 (2 ∷ []) ∷ at 1 (2 ∷ []) ∷ at 4 (0 ∷ 1 ∷ 2 ∷ []) ∷ [])) (0 ∷ 1 ∷ 2 ∷ []) 7 ≡ true
the_empty_prefix_at_7 = refl

-- ---- the tags, as they are read: displacement + 1

the_tag_of_the_empty_prefix : tag_read collisions (root 0) ≡ 8
the_tag_of_the_empty_prefix = refl

the_tag_of_the_thing : tag_read collisions (0, 0 ∷ []) ≡ 1
the_tag_of_the_thing = refl

the_tag_of_the_rock : tag_read collisions (0, 1 ∷ []) ≡ 2
the_tag_of_the_rock = refl

the_tag_of_the_ship : tag_read collisions (0, 2 ∷ []) ≡ 5
the_tag_of_the_ship = refl

no_tag : tag_read collisions (1, 2 ∷ []) ≡ 0
no_tag = refl

-- ---- the cells

the_last_cell : cell_at 8 2 ≡ 67108873
the_last_cell = refl

where_a_rock_and_a_ship_are_read_first : way_along collisions (collisions 8192) (1 ∷ 2 ∷ []) 1 ≡ 67108872
where_a_rock_and_a_ship_are_read_first = refl

where_a_rock_and_a_ship_are_read_then : way_along collisions (collisions 8192) (1 ∷ 2 ∷ []) 2 ≡ 67108867
where_a_rock_and_a_ship_are_read_then = refl

-- ---- the answers

a_rock_and_a_ship : found mrd collisions (sent 0 (1 ∷ 2 ∷ [])) ≡ Answered (Method 0)
a_rock_and_a_ship = refl

a_ship_and_a_rock : found mrd collisions (sent 0 (2 ∷ 1 ∷ [])) ≡ Answered (Method 1)
a_ship_and_a_rock = refl

two_ships : found mrd collisions (sent 0 (2 ∷ 2 ∷ [])) ≡ Answered Ambiguous
two_ships = refl

-- the cell that is read last, 67108866, is one of the thing's row
two_rocks : found mrd collisions (sent 0 (1 ∷ 1 ∷ [])) ≡ Answered NotUnderstood
two_rocks = refl

one_rock : found mrd collisions (sent 0 (1 ∷ [])) ≡ WrongArity
one_rock = refl

another_selector : found mrd collisions (sent 1 (1 ∷ 1 ∷ [])) ≡ NoSelector
another_selector = refl

another_class : found mrd collisions (sent 0 (1 ∷ 3 ∷ [])) ≡ NoClass 2
another_class = refl
