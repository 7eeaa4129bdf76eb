-- The rule of placing, worked out: batches of two selectors in colours, with every word that they make. The words are placed,
-- and whatever else is placed has the same: no other colour, and no other turn, is right.
use Rattle.std.proofs.Common.{◌≡◌, ◌≢◌, ◌==◌, ℕ, ◌+◌, ◌-◌, ◌*◌, ◌<◌, Bool, true, false, ◌&&◌, not, if◌then◌else◌, List, [], ◌∷◌, refl, sym, ap, subst, ◌∙◌, arith}
use Rattle.std.proofs.lemmas.List.Elements.{All-nil, All-cons}
use Rattle.dt_pages.specs.Reading.{Reading}
use Rattle.dt_scratch.specs.Query.{Query, arity_of_query}
use Rattle.dt_scratch.specs.declared.reply.Answer.TheVariants.{NotUnderstood}
use Rattle.dt_scratch.specs.declared.reply.Change.{Change}
use Rattle.dt_cells.specs.Regions.{place_of}
use Rattle.dt_cells.specs.Cell.{cell_word}
use Rattle.dt_cells.specs.Held.{Held, IsHeld, IsInRange, held_after}
use Rattle.dt_cells.specs.HeldLaws.{after_keeps}
use Rattle.dt_cells.specs.Kind.{sets}
use Rattle.dt_fit.specs.declared.geometry.Geometry.TheVariants.{Colours}
use Rattle.dt_fit.specs.Geometry as fit
use Rattle.dt_fit.specs.Fits.{fits}
use Rattle.dt_placing.specs.Rows.{single, indexes_below, indexes, has_index}
use Rattle.dt_placing.specs.RowsLaws.{index_of}
use Rattle.dt_placing.specs.Placing.{cell_at, tag_of, HasRoom, Shows, words_after, is_used, may_stay, IsPlaced, Places, placing}
use Rattle.dt_placing.specs.PlacingLaws.{placing_is_lawful}
use Rattle.dt_placing.specs.Examples.{words, two_colours}
use Rattle.dt_placing.specs.BatchFacts.{class_of, on_words, on_changed, unused, used_before, used, stays_as, placed_as, placed_means, IsHeldAt, no_cell, in_range, fits_two, not_by_second, answered, apart_held, of_apart, apart_bodies, to_both, both_held, of_both}

-- ---- colours: selector 0 stays, and selector 1 finds the cell of class 2 used when its turn comes

abbrev one_colour : Reading
one_colour = words ((0, 1) ∷ (1, 1) ∷ (4096, 1) ∷ (4097, 1) ∷ (8192, 1) ∷ (8193, 1) ∷ (16777216, 4294967298) ∷ (16777217, 8589934595) ∷ [])

abbrev colours_after : ℕ → ℕ
colours_after = words_after one_colour to_both two_colours

first_indexes : indexes both_held 0 ≡ 0 ∷ 2 ∷ []
unfolding indexes_below
first_indexes = refl

second_indexes : indexes both_held 1 ≡ 1 ∷ 2 ∷ []
unfolding indexes_below
second_indexes = refl

first_had_some : has_index apart_held 0 ≡ true
unfolding indexes_below
first_had_some = refl

second_had_some : has_index apart_held 1 ≡ true
unfolding indexes_below
second_had_some = refl

abbrev colours_used : ℕ → ℕ → Bool
colours_used = is_used Colours one_colour apart_held to_both colours_after

-- when the turn of selector 0 comes, selector 1 has the cell of class 1 in colour 0, and no other
first_free : (cell : ℕ) → cell ≢ 1 → colours_used 0 cell ≡ false
first_free cell differs = unused Colours one_colour apart_held to_both colours_after 0 cell
    (λ q h l e. omega (arith, l))
    (of_apart (λ q. 0 < q.selector → fit.cell_at Colours (one_colour (place_of q.selector) - 1) (class_of q) ≡ cell → ⊥)
    (λ l e. omega (arith, l)) (λ l e. differs (sym e)))

first_stays : may_stay Colours one_colour apart_held to_both colours_after 0 ≡ true
first_stays = stays_as Colours one_colour apart_held to_both colours_after 0 (0 ∷ 2 ∷ []) true first_indexes first_had_some
    (fits_two Colours (colours_used 0) 0 2 0 (first_free 0 (λ e. omega (arith, e))) (first_free 2 (λ e. omega (arith, e))))

the_first_keeps_its_colour : IsPlaced Colours one_colour apart_held to_both colours_after 0
the_first_keeps_its_colour = placed_as Colours one_colour apart_held to_both colours_after 0 (0 ∷ 2 ∷ []) true first_indexes first_stays refl

-- when that of selector 1 comes, selector 0 has the cells of classes 0 and 2 in colour 0
second_used : colours_used 1 2 ≡ true
second_used = used_before Colours one_colour apart_held to_both colours_after 1 2 0 2 (omega arith) (omega arith) (omega arith) (λ e. cc) refl

second_free : (cell : ℕ) → 2 < cell → colours_used 1 cell ≡ false
second_free cell more = unused Colours one_colour apart_held to_both colours_after 1 cell
    (of_both (λ q. q.selector < 1 → fit.cell_at Colours (colours_after q.selector - 1) (class_of q) ≡ cell → ⊥)
    (λ l e. let is : 0 ≡ cell = e in omega (arith, is, more)) (λ l e. omega (arith, l))
    (λ l e. let is : 2 ≡ cell = e in omega (arith, is, more)) (λ l e. omega (arith, l)))
    (of_apart (λ q. 1 < q.selector → fit.cell_at Colours (one_colour (place_of q.selector) - 1) (class_of q) ≡ cell → ⊥)
    (λ l e. omega (arith, l)) (λ l e. omega (arith, l)))

second_not_at_0 : fits Colours (colours_used 1) (1 ∷ 2 ∷ []) 0 ≡ false
second_not_at_0 = not_by_second Colours (colours_used 1) 1 2 [] 0 second_used

second_may_not_stay : may_stay Colours one_colour apart_held to_both colours_after 1 ≡ false
second_may_not_stay = stays_as Colours one_colour apart_held to_both colours_after 1 (1 ∷ 2 ∷ []) false second_indexes second_had_some second_not_at_0

the_second_moves_on : IsPlaced Colours one_colour apart_held to_both colours_after 1
the_second_moves_on = placed_as Colours one_colour apart_held to_both colours_after 1 (1 ∷ 2 ∷ []) false second_indexes second_may_not_stay (
  1,
  refl,
  record {
    passes = fits_two Colours (colours_used 1) 1 2 1 (second_free 2049 (omega arith)) (second_free 2050 (omega arith));
    none_below = λ lower below. let is : lower ≡ 0 = omega (arith, below) in
        subst (λ n. fits Colours (colours_used 1) (1 ∷ 2 ∷ []) n ≡ false) (sym is) second_not_at_0;
  },
)

colour_room : (word : ℕ) → 0 < word → word < 3 → HasRoom Colours word
colour_room word some few = record { some = some; within = (let w : word - 1 < 4096 = omega (arith, few) in w) }

the_colours_are_placed : Places Colours one_colour apart_held to_both two_colours
the_colours_are_placed = record {
  turns = on_changed (IsPlaced Colours one_colour apart_held to_both colours_after) to_both
      (All-cons (λ change. IsPlaced Colours one_colour apart_held to_both colours_after change.query.selector) (answered 0 2 0) (answered 1 2 1 ∷ []) the_first_keeps_its_colour
      (All-cons (λ change. IsPlaced Colours one_colour apart_held to_both colours_after change.query.selector) (answered 1 2 1) [] the_second_moves_on
      (All-nil (λ change. IsPlaced Colours one_colour apart_held to_both colours_after change.query.selector))));
  room = λ s some. let found = index_of both_held s some in of_both (λ q. HasRoom Colours (colours_after q.selector))
      (colour_room 1 (omega arith) (omega arith)) (colour_room 2 (omega arith) (omega arith))
      (colour_room 1 (omega arith) (omega arith)) (colour_room 2 (omega arith) (omega arith)) (single s found.0) found.1.1;
  cells = record {
    set = λ s class below h. of_both (λ q. two_colours (cell_at Colours (colours_after q.selector - 1) (class_of q)) ≡ cell_word (tag_of q.selector) (both_held q))
        refl refl refl refl (single s class) h;
    used = λ address own some. on_words (IsHeldAt Colours colours_after both_held)
        ((0, 1) ∷ (1, 1) ∷ (2, 1) ∷ (4096, 1) ∷ (4097, 1) ∷ (8192, 1) ∷ (8193, 2)
        ∷ (16777216, 4294967298) ∷ (16777218, 4294967298) ∷ (16779265, 8589934595) ∷ (16779266, 8589934595) ∷ []) (
          no_cell,
          (
            no_cell,
            (
              no_cell,
              (
                no_cell,
                (
                  no_cell,
                  (
                    no_cell,
                    (
                      no_cell,
                      (
                        (λ o. (0, 0, omega arith, (λ e. cc), refl)),
                        (
                          (λ o. (0, 2, omega arith, (λ e. cc), refl)),
                          (
                            (λ o. (1, 1, omega arith, (λ e. cc), refl)),
                            ((λ o. (1, 2, omega arith, (λ e. cc), refl)), tt),
                          ),
                        ),
                      ),
                    ),
                  ),
                ),
              ),
            ),
          ),
        ) address some own;
  };
}

-- the reading before the batch shows what was held
the_one_colour_shows : Shows Colours one_colour apart_held
the_one_colour_shows = record {
  range = of_apart IsInRange (in_range 0 0 (omega arith) (omega arith)) (in_range 1 1 (omega arith) (omega arith));
  one = of_apart (λ q. arity_of_query q ≡ 1) refl refl;
  body = apart_bodies;
  room = λ s some. let found = index_of apart_held s some in of_apart (λ q. HasRoom Colours (one_colour (place_of q.selector)))
      (colour_room 1 (omega arith) (omega arith)) (colour_room 1 (omega arith) (omega arith)) (single s found.0) found.1.1;
  cells = record {
    set = λ s class below h. of_apart (λ q. one_colour (cell_at Colours (one_colour (place_of q.selector) - 1) (class_of q)) ≡ cell_word (tag_of q.selector) (apart_held q))
        refl refl (single s class) h;
    used = λ address own some. on_words (IsHeldAt Colours (λ s. one_colour (place_of s)) apart_held)
        ((0, 1) ∷ (1, 1) ∷ (4096, 1) ∷ (4097, 1) ∷ (8192, 1) ∷ (8193, 1) ∷ (16777216, 4294967298) ∷ (16777217, 8589934595) ∷ []) (
          no_cell,
          (
            no_cell,
            (
              no_cell,
              (
                no_cell,
                (
                  no_cell,
                  (
                    no_cell,
                    (
                      (λ o. (0, 0, omega arith, (λ e. cc), refl)),
                      ((λ o. (1, 1, omega arith, (λ e. cc), refl)), tt),
                    ),
                  ),
                ),
              ),
            ),
          ),
        ) address some own;
  };
}

-- whatever is placed has these words: so selector 0 has had its turn first, and selector 1 is neither at its old colour nor
-- at a later one than the second
each_word_of_colours : (y : Reading) → Places Colours one_colour apart_held to_both y → (address : ℕ) → sets (placing Colours) to_both address ≡ true
    → y address ≡ two_colours address
each_word_of_colours y is address set =
    (placing_is_lawful Colours).determined one_colour y two_colours apart_held to_both the_one_colour_shows is the_colours_are_placed address set

not_the_old_colour : (y : Reading) → Places Colours one_colour apart_held to_both y → y 8193 ≡ 1 → ⊥
not_the_old_colour y is e = let word : y 8193 ≡ 2 = each_word_of_colours y is 8193 refl in omega (arith, e, word)

not_the_third_colour : (y : Reading) → Places Colours one_colour apart_held to_both y → y 8193 ≡ 3 → ⊥
not_the_third_colour y is e = let word : y 8193 ≡ 2 = each_word_of_colours y is 8193 refl in omega (arith, e, word)

the_second_has_no_turn_first : (y : Reading) → Places Colours one_colour apart_held to_both y → y 8192 ≡ 2 → ⊥
the_second_has_no_turn_first y is e = let word : y 8192 ≡ 1 = each_word_of_colours y is 8192 refl in omega (arith, e, word)

no_cell_stays_behind : (y : Reading) → Places Colours one_colour apart_held to_both y → y 16777217 ≡ 0
no_cell_stays_behind y is = each_word_of_colours y is 16777217 refl

-- ---- a place is kept though a lower one is free: selector 0 loses class 2, and selector 1 gets class 3

abbrev lost : List Change
lost = record { query = single 0 2; answer = NotUnderstood } ∷ answered 1 3 1 ∷ []

abbrev lost_held : Held
lost_held = held_after both_held lost

of_lost : (P : Query → Type 0) → P (single 0 0) → P (single 1 1) → P (single 1 2) → P (single 1 3) → (q : Query) → IsHeld lost_held q → P q
of_lost P a b c d q h = after_keeps (λ r. IsHeld lost_held r → P r) both_held lost
    (of_both (λ r. IsHeld lost_held r → P r) (λ i. a) (λ i. b) (λ i. absurd (i refl)) (λ i. c))
    (All-cons (λ change. IsHeld lost_held change.query → P change.query) (record { query = single 0 2; answer = NotUnderstood }) (answered 1 3 1 ∷ []) (λ i. absurd (i refl))
    (All-cons (λ change. IsHeld lost_held change.query → P change.query) (answered 1 3 1) [] (λ i. d) (All-nil (λ change. IsHeld lost_held change.query → P change.query))))
    q h h

-- its place word is this, and that of selector 0 is 1
abbrev with_second : ℕ → ℕ → ℕ
with_second word s = if s == 1 then word else 1

lost_indexes : indexes lost_held 1 ≡ 1 ∷ 2 ∷ 3 ∷ []
unfolding indexes_below
lost_indexes = refl

both_has_some : has_index both_held 1 ≡ true
unfolding indexes_below
both_has_some = refl

module _ (word : ℕ) where
  abbrev lost_used : ℕ → Bool
  lost_used = is_used Colours two_colours both_held lost (with_second word) 1

  lost_free : (cell : ℕ) → cell ≢ 0 → lost_used cell ≡ false
  lost_free cell differs = unused Colours two_colours both_held lost (with_second word) 1 cell
      (of_lost (λ q. q.selector < 1 → fit.cell_at Colours (with_second word q.selector - 1) (class_of q) ≡ cell → ⊥)
      (λ l e. differs (sym e)) (λ l e. omega (arith, l)) (λ l e. omega (arith, l)) (λ l e. omega (arith, l)))
      (of_both (λ q. 1 < q.selector → fit.cell_at Colours (two_colours (place_of q.selector) - 1) (class_of q) ≡ cell → ⊥)
      (λ l e. omega (arith, l)) (λ l e. omega (arith, l)) (λ l e. omega (arith, l)) (λ l e. omega (arith, l)))

  it_fits_at : (place : ℕ) → fits Colours lost_used (1 ∷ 2 ∷ 3 ∷ []) place ≡ true
  it_fits_at place =
      ap (λ (v : Bool). not v && fits Colours lost_used (2 ∷ 3 ∷ []) place) (lost_free (2048 * place + 1) (λ e. omega (arith, e)))
      ∙ fits_two Colours lost_used 2 3 place (lost_free (2048 * place + 2) (λ e. omega (arith, e))) (lost_free (2048 * place + 3) (λ e. omega (arith, e)))

  it_may_stay : may_stay Colours two_colours both_held lost (with_second word) 1 ≡ true
  it_may_stay = stays_as Colours two_colours both_held lost (with_second word) 1 (1 ∷ 2 ∷ 3 ∷ []) true lost_indexes both_has_some (it_fits_at 1)

  -- its word is that of before
  it_keeps_its_word : IsPlaced Colours two_colours both_held lost (with_second word) 1 → word ≡ 2
  it_keeps_its_word = placed_means Colours two_colours both_held lost (with_second word) 1 (1 ∷ 2 ∷ 3 ∷ []) true lost_indexes it_may_stay

a_lower_colour_is_free : fits Colours (lost_used 2) (1 ∷ 2 ∷ 3 ∷ []) 0 ≡ true
a_lower_colour_is_free = it_fits_at 2 0

its_colour_is_kept : IsPlaced Colours two_colours both_held lost (with_second 2) 1
its_colour_is_kept = placed_as Colours two_colours both_held lost (with_second 2) 1 (1 ∷ 2 ∷ 3 ∷ []) true lost_indexes (it_may_stay 2) refl

not_the_lower_colour : IsPlaced Colours two_colours both_held lost (with_second 1) 1 → ⊥
not_the_lower_colour is = let word : 1 ≡ 2 = it_keeps_its_word 1 is in omega (arith, word)
