-- What it is for a value to stand for a reading, for every kind that places selectors as a whole.
use Rattle.std.proofs.Common.{◌≡◌, ◌≢◌, ◌==◌, ℕ, ◌+◌, ◌<◌, Bool, true, false, not, sym, ap, ◌∙◌, arith, get_or}
use Rattle.std.specs.Prelude.{nat_lt, ◌&&◌}
use Rattle.std.proofs.lemmas.Bool.{true≢false, eq-eqb, eqb-true, and_parts, and_from, not_from_false}
use Rattle.dt_pages.specs.Reading.{Reading}
use Rattle.dt_cells.specs.Regions.{place_of}
use Rattle.dt_cells.specs.Held.{Held}
use Rattle.dt_cells.specs.HeldLaws.{by_cases, if_true, if_false}
use Rattle.dt_cells.specs.Kind.{SameFor}
use Rattle.dt_cells.specs.Standing.{IsStanding}
use Rattle.dt_fit.specs.declared.geometry.Geometry.{Geometry}
use Rattle.dt_fit.specs.Cells.{is_kept}
use Rattle.dt_placing.specs.Rows.{single, has_index}
use Rattle.dt_placing.specs.RowsLaws.{index_of}
use Rattle.dt_placing.specs.Placing.{owns, AreUsed, Kept, Stands, has_place, placing}
use Rattle.dt_placing.specs.PlacingLaws.{placing_is_lawful, lt_test, lt_tested}

module _ (g : Geometry) where
  -- the used cells are those of every reading with the same words in the region
  pub used_elsewhere : (used : ℕ → Bool) (x y : Reading) → ((address : ℕ) → owns address ≡ true → x address ≡ y address) → AreUsed used x → AreUsed used y
  used_elsewhere used x y same are cell = are cell ∙ by_cases (owns (16777216 + cell))
      (λ t. ap (λ w. owns (16777216 + cell) && not (w == 0)) (same (16777216 + cell) t))
      (λ f. ap (λ b. b && not (x (16777216 + cell) == 0)) f ∙ sym (ap (λ b. b && not (y (16777216 + cell) == 0)) f))

  pub stands_elsewhere : (kept : Kept) (x y : Reading) (held : Held) → Stands g kept x held → SameFor (placing g) held x y → Stands g kept y held
  stands_elsewhere kept x y held st same = record {
    shows = (placing_is_lawful g).shown_elsewhere x y held st.shows same;
    geometry_is = st.geometry_is;
    words = λ s below. st.words s below ∙ by_cases (has_index held s)
        (λ t. if_true (has_index held s) (x (place_of s)) 0 t ∙ same.words s t ∙ sym (if_true (has_index held s) (y (place_of s)) 0 t))
        (λ f. if_false (has_index held s) (x (place_of s)) 0 f ∙ sym (if_false (has_index held s) (y (place_of s)) 0 f));
    cells = used_elsewhere (is_kept kept.cells) x y same.owned st.cells;
  }

  -- a selector has a place where its word isn't 0
  pub placed_told : (kept : Kept) (x : Reading) (held : Held) (s : ℕ) → Stands g kept x held → has_place kept s ≡ true → has_index held s ≡ true
  placed_told kept x held s st e = by_cases (has_index held s) (λ t. t)
      (λ f. (let parts = and_parts (nat_lt s 4096) (not (get_or kept.words s 0 == 0)) e in
      let none : get_or kept.words s 0 ≡ 0 = st.words s (lt_tested s 4096 parts.0) ∙ if_false (has_index held s) (x (place_of s)) 0 f in
      absurd (true≢false (sym parts.1 ∙ ap not (eq-eqb (get_or kept.words s 0) 0 none)))))

  pub none_told : (kept : Kept) (x : Reading) (held : Held) (s : ℕ) → Stands g kept x held → has_place kept s ≡ false → has_index held s ≡ true → ⊥
  none_told kept x held s st e p =
      let range : s < 4096 = (st.shows.range (single s (index_of held s p).0) (index_of held s p).1.1).selector in
      let room : 0 < x (place_of s) = (st.shows.room s p).some in
      let word : get_or kept.words s 0 ≡ x (place_of s) = st.words s range ∙ if_true (has_index held s) (x (place_of s)) 0 p in
      let some : get_or kept.words s 0 ≢ 0 = (λ z. omega (arith, room, word, z)) in
      true≢false (sym (and_from (nat_lt s 4096) (not (get_or kept.words s 0 == 0)) (lt_test s 4096 range)
      (not_from_false (get_or kept.words s 0 == 0) (differs (get_or kept.words s 0) some))) ∙ e)
    where
      differs : (n : ℕ) → n ≢ 0 → (n == 0) ≡ false
      differs n h = by_cases (n == 0) (λ t. absurd (h (eqb-true n 0 t))) (λ f. f)

  pub placing_stands : (V : Type 0) (keeps : V → Kept)
      → IsStanding V (placing g) (λ value. 1) (λ value selector. has_place (keeps value) selector) (λ value x held. Stands g (keeps value) x held)
  placing_stands V keeps = record {
    shows = λ v x held st. st.shows;
    elsewhere = λ v x y held st same. stands_elsewhere (keeps v) x y held st same;
    least = λ v x held st. omega arith;
    in_arities = λ v x held q st h. let one = st.shows.one q h in (omega (arith, one), omega (arith, one));
    tells = λ v x held s st e. placed_told (keeps v) x held s st e;
    tells_none = λ v x held s st e. none_told (keeps v) x held s st e;
  }
