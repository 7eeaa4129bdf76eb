-- The rule of placing, worked out: batches of two selectors at displacements, with every word that they make. The words are
-- placed, and whatever else is placed has the same: no other displacement, and no other turn, is right.
use Rattle.std.proofs.Common.{◌≡◌, ◌≢◌, ◌==◌, ℕ, ◌-◌, ◌<◌, Bool, true, false, ◌&&◌, not, List, [], ◌∷◌, refl, sym, ap, subst, ◌∙◌, arith}
use Rattle.std.proofs.lemmas.Bool.{eqb-true, eq-eqb, true≢false}
use Rattle.std.proofs.lemmas.List.Elements.{All-nil, All-cons}
use Rattle.dt_pages.specs.Reading.{Reading}
use Rattle.dt_scratch.specs.Query.{Query, arity_of_query}
use Rattle.dt_scratch.specs.declared.reply.Change.{Change}
use Rattle.dt_cells.specs.Regions.{place_of}
use Rattle.dt_cells.specs.Cell.{cell_word}
use Rattle.dt_cells.specs.Held.{Held, none_held, IsHeld, IsInRange, HasBodyInRange, held_after, IsStageableChange}
use Rattle.dt_cells.specs.HeldLaws.{by_cases, after_keeps, body_after}
use Rattle.dt_cells.specs.Kind.{sets}
use Rattle.dt_fit.specs.declared.geometry.Geometry.TheVariants.{Displacements}
use Rattle.dt_fit.specs.Geometry as fit
use Rattle.dt_fit.specs.Fits.{fits}
use Rattle.dt_placing.specs.Rows.{single, indexes_below, indexes, has_index}
use Rattle.dt_placing.specs.RowsLaws.{index_of}
use Rattle.dt_placing.specs.Placing.{cell_at, tag_of, AreCells, HasRoom, Shows, words_after, is_used, IsPlaced, Places, placing}
use Rattle.dt_placing.specs.PlacingLaws.{placing_is_lawful}
use Rattle.dt_placing.specs.Examples.{words, two_rows}
use Rattle.dt_placing.specs.BatchFacts.{class_of, on_words, on_changed, of_none, unused, used_before, used_later, used, stays_as, none_stays, placed_as, IsHeldAt, no_cell, in_range, fits_two, not_by_first, not_by_second, answered, may_be}

-- ---- displacements: two selectors with class 0, placed one after the other

abbrev alike : List Change
alike = answered 0 0 0 ∷ answered 1 0 1 ∷ []

abbrev alike_held : Held
alike_held = held_after none_held alike

of_alike : (P : Query → Type 0) → P (single 0 0) → P (single 1 0) → (q : Query) → IsHeld alike_held q → P q
of_alike P a b = after_keeps P none_held alike (of_none P) (All-cons (λ change. P change.query) (answered 0 0 0) (answered 1 0 1 ∷ []) a
    (All-cons (λ change. P change.query) (answered 1 0 1) [] b (All-nil (λ change. P change.query))))

alike_bodies : (q : Query) → HasBodyInRange (alike_held q)
alike_bodies = body_after 1 1 none_held alike (λ q. tt) (All-cons (IsStageableChange 1 1) (answered 0 0 0) (answered 1 0 1 ∷ []) (may_be 0 0 0 (omega arith) (omega arith) (omega arith))
    (All-cons (IsStageableChange 1 1) (answered 1 0 1) [] (may_be 1 0 1 (omega arith) (omega arith) (omega arith)) (All-nil (IsStageableChange 1 1))))

-- two classes and two selectors, and no definition
abbrev no_row : Reading
no_row = words ((0, 1) ∷ (1, 1) ∷ (4096, 1) ∷ (4097, 1) ∷ [])

abbrev a_row_each : Reading
a_row_each = words ((0, 1) ∷ (1, 1) ∷ (4096, 1) ∷ (4097, 1) ∷ (8192, 1) ∷ (8193, 2) ∷ (16777216, 4294967298) ∷ (16777217, 8589934595) ∷ [])

abbrev rows_first : ℕ → ℕ
rows_first = words_after no_row alike a_row_each

abbrev first_rows_used : ℕ → ℕ → Bool
first_rows_used = is_used Displacements no_row none_held alike rows_first

first_alone : (cell : ℕ) → first_rows_used 0 cell ≡ false
first_alone cell = unused Displacements no_row none_held alike rows_first 0 cell (λ q h l e. omega (arith, l)) (λ q h. absurd (h refl))

second_beside : (cell : ℕ) → cell ≢ 0 → first_rows_used 1 cell ≡ false
second_beside cell differs = unused Displacements no_row none_held alike rows_first 1 cell
    (of_alike (λ q. q.selector < 1 → fit.cell_at Displacements (rows_first q.selector - 1) (class_of q) ≡ cell → ⊥)
    (λ l e. differs (sym e)) (λ l e. omega (arith, l)))
    (λ q h. absurd (h refl))

second_not_beside : first_rows_used 1 0 ≡ true
second_not_beside = used_before Displacements no_row none_held alike rows_first 1 0 0 0 (omega arith) (omega arith) (omega arith) (λ e. cc) refl

alike_first : indexes alike_held 0 ≡ 0 ∷ []
unfolding indexes_below
alike_first = refl

alike_second : indexes alike_held 1 ≡ 0 ∷ []
unfolding indexes_below
alike_second = refl

none_has_index : (s : ℕ) → has_index none_held s ≡ false
none_has_index s = by_cases (has_index none_held s) (λ t. absurd ((index_of none_held s t).1.1 refl)) (λ f. f)

the_first_at_0 : IsPlaced Displacements no_row none_held alike rows_first 0
the_first_at_0 = placed_as Displacements no_row none_held alike rows_first 0 (0 ∷ []) false alike_first
    (none_stays Displacements no_row none_held alike rows_first 0 (none_has_index 0))
    (0, refl, record { passes = ap (λ (v : Bool). not v && true) (first_alone 0); none_below = λ lower below. absurd (omega (arith, below)) })

the_second_at_1 : IsPlaced Displacements no_row none_held alike rows_first 1
the_second_at_1 = placed_as Displacements no_row none_held alike rows_first 1 (0 ∷ []) false alike_second
    (none_stays Displacements no_row none_held alike rows_first 1 (none_has_index 1)) (
      1,
      refl,
      record {
        passes = ap (λ (v : Bool). not v && true) (second_beside 1 (λ e. omega (arith, e)));
        none_below = λ lower below. let is : lower ≡ 0 = omega (arith, below) in
            subst (λ n. fits Displacements (first_rows_used 1) (0 ∷ []) n ≡ false) (sym is) (not_by_first Displacements (first_rows_used 1) 0 [] 0 second_not_beside);
      },
    )

row_room : (word : ℕ) → 0 < word → word < 4 → HasRoom Displacements word
row_room word some few = record { some = some; within = (let w : word - 1 < 16775168 = omega (arith, few) in w) }

alike_room : (places : ℕ → ℕ) → HasRoom Displacements (places 0) → HasRoom Displacements (places 1) → (s : ℕ) → has_index alike_held s ≡ true → HasRoom Displacements (places s)
alike_room places a b s some = let found = index_of alike_held s some in
    of_alike (λ q. HasRoom Displacements (places q.selector)) a b (single s found.0) found.1.1

alike_cells : AreCells Displacements (λ s. a_row_each (place_of s)) alike_held a_row_each
alike_cells = record {
  set = λ s class below h. of_alike (λ q. a_row_each (cell_at Displacements (a_row_each (place_of q.selector) - 1) (class_of q)) ≡ cell_word (tag_of q.selector) (alike_held q))
      refl refl (single s class) h;
  used = λ address own some. on_words (IsHeldAt Displacements (λ s. a_row_each (place_of s)) alike_held)
      ((0, 1) ∷ (1, 1) ∷ (4096, 1) ∷ (4097, 1) ∷ (8192, 1) ∷ (8193, 2) ∷ (16777216, 4294967298) ∷ (16777217, 8589934595) ∷ []) (
        no_cell,
        (
          no_cell,
          (
            no_cell,
            (
              no_cell,
              (
                no_cell,
                (
                  no_cell,
                  (
                    (λ o. (0, 0, omega arith, (λ e. cc), refl)),
                    ((λ o. (1, 0, omega arith, (λ e. cc), refl)), tt),
                  ),
                ),
              ),
            ),
          ),
        ),
      ) address some own;
}

the_rows_are_placed : Places Displacements no_row none_held alike a_row_each
the_rows_are_placed = record {
  turns = on_changed (IsPlaced Displacements no_row none_held alike rows_first) alike
      (All-cons (λ change. IsPlaced Displacements no_row none_held alike rows_first change.query.selector) (answered 0 0 0) (answered 1 0 1 ∷ []) the_first_at_0
      (All-cons (λ change. IsPlaced Displacements no_row none_held alike rows_first change.query.selector) (answered 1 0 1) [] the_second_at_1
      (All-nil (λ change. IsPlaced Displacements no_row none_held alike rows_first change.query.selector))));
  room = alike_room rows_first (row_room 1 (omega arith) (omega arith)) (row_room 2 (omega arith) (omega arith));
  cells = record {
    set = λ s class below h. of_alike (λ q. a_row_each (cell_at Displacements (rows_first q.selector - 1) (class_of q)) ≡ cell_word (tag_of q.selector) (alike_held q))
        refl refl (single s class) h;
    used = λ address own some. on_words (IsHeldAt Displacements rows_first alike_held)
        ((0, 1) ∷ (1, 1) ∷ (4096, 1) ∷ (4097, 1) ∷ (8192, 1) ∷ (8193, 2) ∷ (16777216, 4294967298) ∷ (16777217, 8589934595) ∷ []) (
          no_cell,
          (
            no_cell,
            (
              no_cell,
              (
                no_cell,
                (
                  no_cell,
                  (
                    no_cell,
                    (
                      (λ o. (0, 0, omega arith, (λ e. cc), refl)),
                      ((λ o. (1, 0, omega arith, (λ e. cc), refl)), tt),
                    ),
                  ),
                ),
              ),
            ),
          ),
        ) address some own;
  };
}

the_empty_rows_show : Shows Displacements no_row none_held
the_empty_rows_show = record {
  range = λ q h. absurd (h refl);
  one = λ q h. absurd (h refl);
  body = λ q. tt;
  room = λ s some. absurd (true≢false (sym some ∙ none_has_index s));
  cells = record {
    set = λ s class below h. absurd (h refl);
    used = λ address own some. on_words (IsHeldAt Displacements (λ s. no_row (place_of s)) none_held)
        ((0, 1) ∷ (1, 1) ∷ (4096, 1) ∷ (4097, 1) ∷ []) (no_cell, (no_cell, (no_cell, (no_cell, tt)))) address some own;
  };
}

-- selectors have their turns in ascending order
each_word_of_rows : (y : Reading) → Places Displacements no_row none_held alike y → (address : ℕ) → sets (placing Displacements) alike address ≡ true
    → y address ≡ a_row_each address
each_word_of_rows y is address set =
    (placing_is_lawful Displacements).determined no_row y a_row_each none_held alike the_empty_rows_show is the_rows_are_placed address set

not_in_descending_order : (y : Reading) → Places Displacements no_row none_held alike y → y 8192 ≡ 2 → ⊥
not_in_descending_order y is e = let word : y 8192 ≡ 1 = each_word_of_rows y is 8192 refl in omega (arith, e, word)

-- ---- then selector 0 gets class 1, and fits at neither 0 nor 1

abbrev to_next : List Change
to_next = answered 0 1 2 ∷ []

abbrev next_held : Held
next_held = held_after alike_held to_next

of_next : (P : Query → Type 0) → P (single 0 0) → P (single 1 0) → P (single 0 1) → (q : Query) → IsHeld next_held q → P q
of_next P a b c = after_keeps P alike_held to_next (of_alike P a b) (All-cons (λ change. P change.query) (answered 0 1 2) [] c (All-nil (λ change. P change.query)))

abbrev rows_after : ℕ → ℕ
rows_after = words_after a_row_each to_next two_rows

abbrev rows_used : ℕ → Bool
rows_used = is_used Displacements a_row_each alike_held to_next rows_after 0

next_indexes : indexes next_held 0 ≡ 0 ∷ 1 ∷ []
unfolding indexes_below
next_indexes = refl

alike_has_some : has_index alike_held 0 ≡ true
unfolding indexes_below
alike_has_some = refl

-- selector 1 has cell 1, and no other
cell_1_is_used : rows_used 1 ≡ true
cell_1_is_used = used_later Displacements a_row_each alike_held to_next rows_after 0 1 1 0 (omega arith) (omega arith) (omega arith) (λ e. cc) refl

others_are_free : (cell : ℕ) → cell ≢ 1 → rows_used cell ≡ false
others_are_free cell differs = unused Displacements a_row_each alike_held to_next rows_after 0 cell
    (λ q h l e. omega (arith, l))
    (of_alike (λ q. 0 < q.selector → fit.cell_at Displacements (a_row_each (place_of q.selector) - 1) (class_of q) ≡ cell → ⊥)
    (λ l e. omega (arith, l)) (λ l e. differs (sym e)))

no_fit_at_0 : fits Displacements rows_used (0 ∷ 1 ∷ []) 0 ≡ false
no_fit_at_0 = not_by_second Displacements rows_used 0 1 [] 0 cell_1_is_used

no_fit_at_1 : fits Displacements rows_used (0 ∷ 1 ∷ []) 1 ≡ false
no_fit_at_1 = not_by_first Displacements rows_used 0 (1 ∷ []) 1 cell_1_is_used

it_moves_to_2 : IsPlaced Displacements a_row_each alike_held to_next rows_after 0
it_moves_to_2 = placed_as Displacements a_row_each alike_held to_next rows_after 0 (0 ∷ 1 ∷ []) false next_indexes
    (stays_as Displacements a_row_each alike_held to_next rows_after 0 (0 ∷ 1 ∷ []) false next_indexes alike_has_some no_fit_at_0) (
      2,
      refl,
      record {
        passes = fits_two Displacements rows_used 0 1 2 (others_are_free 2 (λ e. omega (arith, e))) (others_are_free 3 (λ e. omega (arith, e)));
        none_below = λ lower below. by_cases (lower == 0)
            (λ t. subst (λ n. fits Displacements rows_used (0 ∷ 1 ∷ []) n ≡ false) (sym (eqb-true lower 0 t)) no_fit_at_0)
            (λ f. (let differs : lower ≢ 0 = (λ e. true≢false (sym (eq-eqb lower 0 e) ∙ f)) in
            let is : lower ≡ 1 = omega (arith, differs, below) in subst (λ n. fits Displacements rows_used (0 ∷ 1 ∷ []) n ≡ false) (sym is) no_fit_at_1));
      },
    )

the_next_is_placed : Places Displacements a_row_each alike_held to_next two_rows
the_next_is_placed = record {
  turns = on_changed (IsPlaced Displacements a_row_each alike_held to_next rows_after) to_next
      (All-cons (λ change. IsPlaced Displacements a_row_each alike_held to_next rows_after change.query.selector) (answered 0 1 2) [] it_moves_to_2
      (All-nil (λ change. IsPlaced Displacements a_row_each alike_held to_next rows_after change.query.selector)));
  room = λ s some. let found = index_of next_held s some in of_next (λ q. HasRoom Displacements (rows_after q.selector))
      (row_room 3 (omega arith) (omega arith)) (row_room 2 (omega arith) (omega arith)) (row_room 3 (omega arith) (omega arith)) (single s found.0) found.1.1;
  cells = record {
    set = λ s class below h. of_next (λ q. two_rows (cell_at Displacements (rows_after q.selector - 1) (class_of q)) ≡ cell_word (tag_of q.selector) (next_held q))
        refl refl refl (single s class) h;
    used = λ address own some. on_words (IsHeldAt Displacements rows_after next_held)
        ((0, 1) ∷ (1, 1) ∷ (4096, 1) ∷ (4097, 1) ∷ (8192, 3) ∷ (8193, 2)
        ∷ (16777217, 8589934595) ∷ (16777218, 4294967298) ∷ (16777219, 4294967300) ∷ []) (
          no_cell,
          (
            no_cell,
            (
              no_cell,
              (
                no_cell,
                (
                  no_cell,
                  (
                    no_cell,
                    (
                      (λ o. (1, 0, omega arith, (λ e. cc), refl)),
                      (
                        (λ o. (0, 0, omega arith, (λ e. cc), refl)),
                        (
                          (λ o. (0, 1, omega arith, (λ e. cc), refl)),
                          tt,
                        ),
                      ),
                    ),
                  ),
                ),
              ),
            ),
          ),
        ) address some own;
  };
}

the_rows_show : Shows Displacements a_row_each alike_held
the_rows_show = record {
  range = of_alike IsInRange (in_range 0 0 (omega arith) (omega arith)) (in_range 1 0 (omega arith) (omega arith));
  one = of_alike (λ q. arity_of_query q ≡ 1) refl refl;
  body = alike_bodies;
  room = alike_room (λ s. a_row_each (place_of s)) (row_room 1 (omega arith) (omega arith)) (row_room 2 (omega arith) (omega arith));
  cells = alike_cells;
}

-- its old cell is empty again, and it stands at no other displacement than 2
each_word_of_the_next : (y : Reading) → Places Displacements a_row_each alike_held to_next y → (address : ℕ) → sets (placing Displacements) to_next address ≡ true
    → y address ≡ two_rows address
each_word_of_the_next y is address set =
    (placing_is_lawful Displacements).determined a_row_each y two_rows alike_held to_next the_rows_show is the_next_is_placed address set

its_old_cell_is_empty : (y : Reading) → Places Displacements a_row_each alike_held to_next y → y 16777216 ≡ 0
its_old_cell_is_empty y is = each_word_of_the_next y is 16777216 refl

not_at_displacement_1 : (y : Reading) → Places Displacements a_row_each alike_held to_next y → y 8192 ≡ 2 → ⊥
not_at_displacement_1 y is e = let word : y 8192 ≡ 3 = each_word_of_the_next y is 8192 refl in omega (arith, e, word)

not_at_displacement_3 : (y : Reading) → Places Displacements a_row_each alike_held to_next y → y 8192 ≡ 4 → ⊥
not_at_displacement_3 y is e = let word : y 8192 ≡ 3 = each_word_of_the_next y is 8192 refl in omega (arith, e, word)
