-- A turn that lays a row anew: the selector's own cells are cleared, and its row is laid where it fits.
use Rattle.std.proofs.Common.{◌≡◌, ◌≢◌, ◌==◌, ℕ, ◌+◌, ◌-◌, ◌*◌, ◌<◌, ◌≤◌, Bool, true, false, ◌&&◌, ◌||◌, not, List, [], ◌∷◌, get_or, ◌⊎◌, inl, inr, refl, sym, ap, subst, ◌∙◌, arith, All}
use Rattle.std.proofs.lemmas.Bool.{or_left, or_right, and_parts, and_from, not_from_false, not-true, eqb-true, eq-eqb, true≢false}
use Rattle.std.proofs.lemmas.List.Elements.{All-nil, All-cons}
use Rattle.dt_pages.specs.Reading.{Reading}
use Rattle.dt_scratch.specs.declared.reply.Change.{Change}
use Rattle.dt_cells.specs.Regions.{place_of}
use Rattle.dt_cells.specs.Cell.{cell_word}
use Rattle.dt_cells.specs.Held.{Held, IsHeld, held_after}
use Rattle.dt_cells.specs.HeldLaws.{by_cases, if_true}
use Rattle.dt_fit.specs.declared.geometry.Geometry.{Geometry}
use Rattle.dt_fit.specs.Geometry.{width_of}
use Rattle.dt_fit.specs.Fits.{fits}
use Rattle.dt_placing.specs.Rows.{single, indexes, is_some, has_index}
use Rattle.dt_placing.specs.RowsLaws.{of_index, has_index_of}
use Rattle.dt_placing.specs.Placing.{cell_at, owns, tag_of, HasRoom, is_used, HasWord, AreUsed}
use Rattle.dt_placing.specs.PlacingLaws.{some_word, owned, owned_cell}
use Rattle.dt_placing.proofs.InRow.{used_are}
use Rattle.dt_placing.specs.Turn.{own_word, used_in_row, number_at, is_own, is_in_row, is_cleared, CanTurn, Turned}
use Rattle.dt_placing.proofs.OwnCells.{own_is}
use Rattle.dt_placing.proofs.Others.{now_words, before, OwnCell, OthersCell, own_held, held_own, owner, not_both, other_uses, freed_is, chosen_is, number_is}
use Rattle.dt_placing.proofs.Turn.{next_held, own_after, place_set, elsewhere, in_cells, IsLaid, placed_next, Done}

module _ {g : Geometry} {tried : ℕ → Bool} {x : Reading} {held : Held} {done own : List Change} {s given : ℕ} {d : Reading}
    (can : CanTurn g tried x held done own s given d) where
  module _ (word : ℕ) (row : List ℕ) (now : Reading) (freed taken : ℕ → Bool)
      (turned : Turned g x s (before can) word row d now tried freed taken)
      (rows : (c : ℕ) → c < 2048 → get_or row c 0 ≡ cell_word (tag_of s) (next_held can (single s c)))
      (chosen : HasWord g (x (place_of s)) (is_used g x held done (now_words can) s) (indexes (next_held can) s) (has_index (next_held can) s)
      (has_index held s && fits g (is_used g x held done (now_words can) s) (indexes (next_held can) s) (x (place_of s) - 1)) word)
      (room : has_index (next_held can) s ≡ true → HasRoom g word) where
    in_row : (c : ℕ) → c < 2048 → IsHeld (next_held can) (single s c) → is_in_row row c ≡ true
    in_row c below h = not_from_false (get_or row c 0 == 0) (by_cases (get_or row c 0 == 0)
        (λ t. absurd (some_word s (next_held can (single s c)) h (sym (rows c below) ∙ eqb-true (get_or row c 0) 0 t))) (λ f. f))

    row_in : (c : ℕ) → c < 2048 → is_in_row row c ≡ true → IsHeld (next_held can) (single s c)
    row_in c below e none =
        true≢false (sym (eq-eqb (get_or row c 0) 0 (rows c below ∙ ap (cell_word (tag_of s)) none)) ∙ not-true (get_or row c 0 == 0) e)

    row_room : (c : ℕ) → c < 2048 → is_in_row row c ≡ true → HasRoom g word
    row_room c below e = room (has_index_of (next_held can) s c below (row_in c below e))

    own_room : (c : ℕ) → c < 2048 → is_own g x s (before can) c ≡ true → HasRoom g (before can)
    own_room c below e = let some : has_index held s ≡ true = has_index_of held s c below (own_held can c below e) in
        subst (HasRoom g) (sym (if_true (has_index held s) (x (place_of s)) 0 some)) (can.shows.room s some)

    -- ---- words

    cells_laid : (address : ℕ) → 16777216 ≤ address → now address ≡ turned.anew.laid address
    cells_laid = in_cells can word now turned.anew.laid turned.anew.places

    -- every other word stays
    rest : (address : ℕ) → owns address ≡ false → address ≢ place_of s → now address ≡ d address
    rest address out apart = elsewhere can word now turned.anew.laid turned.anew.places address apart ∙ elim (turned.anew.lays address) [
      | inl m ↦ absurd (true≢false (sym (ap owns (sym m.3) ∙ owned_cell g word m.0 (row_room m.0 m.1 m.2) m.1) ∙ out))
      | inr m ↦ m.1 ∙ elim (turned.anew.clears address) [
        | inl k ↦ absurd (let own : is_own g x s (before can) k.0 ≡ true = (and_parts (is_own g x s (before can) k.0) (not (word == (before can)) || get_or row k.0 0 == 0) k.2).0 in
            true≢false (sym (ap owns (sym k.3) ∙ owned_cell g (before can) k.0 (own_room k.0 k.1 own) k.1) ∙ out))
        | inr k ↦ k.1
      ]
    ]

    -- no other selector's cell is needed
    free_at : (k : ℕ) → k < 2048 → IsHeld (next_held can) (single s k) → is_used g x held done (now_words can) s (number_at g word k) ≡ false
    free_at k below h = at_word (has_index (next_held can) s) (has_index_of (next_held can) s k below h)
        (has_index held s && fits g (is_used g x held done (now_words can) s) (indexes (next_held can) s) (x (place_of s) - 1)) refl chosen
      where
        each_free : (used : ℕ → Bool) (place : ℕ) (list : List ℕ) → fits g used list place ≡ true → All (λ index. used (width_of g * place + index) ≡ false) list
        each_free used place [] e = All-nil (λ index. used (width_of g * place + index) ≡ false)
        each_free used place (i ∷ is) e =
            let parts = and_parts (not (used (width_of g * place + i))) (fits g used is place) e in
            All-cons (λ index. used (width_of g * place + index) ≡ false) i is (not-true (used (width_of g * place + i)) parts.0) (each_free used place is parts.1)

        at_place : (place : ℕ) → fits g (is_used g x held done (now_words can) s) (indexes (next_held can) s) place ≡ true
            → is_used g x held done (now_words can) s (width_of g * place + k) ≡ false
        at_place place e = of_index (λ index. is_used g x held done (now_words can) s (width_of g * place + index) ≡ false) (next_held can) s 2048
            (each_free (is_used g x held done (now_words can) s) place (indexes (next_held can) s) e) k below h

        at_word : (some : Bool) → some ≡ true → (stays : Bool)
            → (has_index held s && fits g (is_used g x held done (now_words can) s) (indexes (next_held can) s) (x (place_of s) - 1)) ≡ stays
            → HasWord g (x (place_of s)) (is_used g x held done (now_words can) s) (indexes (next_held can) s) some stays word
            → is_used g x held done (now_words can) s (number_at g word k) ≡ false
        at_word false e stays is has = absurd (true≢false (sym e))
        at_word true e true is has = ap (λ w. is_used g x held done (now_words can) s (number_at g w k)) has
            ∙ at_place (x (place_of s) - 1) (and_parts (has_index held s) (fits g (is_used g x held done (now_words can) s) (indexes (next_held can) s) (x (place_of s) - 1)) is).1
        at_word true e false is has =
            let one : word - 1 ≡ has.0 = omega (arith, has.1) in
            ap (λ p. is_used g x held done (now_words can) s (width_of g * p + k)) one ∙ at_place has.0 has.2.passes

    -- where a class's old cell isn't cleared, its place stays and it is in the row
    not_cleared : (c : ℕ) → is_own g x s (before can) c ≡ true → is_cleared g x s (before can) word row c ≢ true → (word ≡ (before can)) × (is_in_row row c ≡ true)
    not_cleared c own stays = by_cases (word == (before can))
        (λ t. by_cases (get_or row c 0 == 0)
        (λ z. absurd (stays (and_from (is_own g x s (before can) c) (not (word == (before can)) || get_or row c 0 == 0) own (or_right (not (word == (before can))) (get_or row c 0 == 0) z))))
        (λ f. (eqb-true word (before can) t, not_from_false (get_or row c 0 == 0) f)))
        (λ f. absurd (stays (and_from (is_own g x s (before can) c) (not (word == (before can)) || get_or row c 0 == 0) own
        (or_left (not (word == (before can))) (get_or row c 0 == 0) (not_from_false (word == (before can)) f)))))

    own_cell : (address c : ℕ) → c < 2048 → is_own g x s (before can) c ≡ true → cell_at g (before can - 1) c ≡ address → OwnCell can address
    own_cell address c below e at = record { class = c; below = below; holds = own_held can c below e; at = at }

    row_set : (c : ℕ) → c < 2048 → IsHeld (next_held can) (single s c) → now (cell_at g (word - 1) c) ≡ cell_word (tag_of s) (next_held can (single s c))
    row_set c below h = cells_laid (cell_at g (word - 1) c) (omega arith) ∙ elim (turned.anew.lays (cell_at g (word - 1) c)) [
      | inl m ↦ (let at : 16777216 + (width_of g * (word - 1) + m.0) ≡ 16777216 + (width_of g * (word - 1) + c) = m.3 in
          let one : m.0 ≡ c = omega (arith, at) in m.4 ∙ ap (λ k. get_or row k 0) one ∙ rows c below)
      | inr m ↦ absurd (m.0 c below (in_row c below h) refl)
    ]

    others_stay : (address : ℕ) → OthersCell can address → now address ≡ d address
    others_stay address u =
        let at : 16777216 + (width_of g * (now_words can u.selector - 1) + u.class) ≡ address = u.at in
        cells_laid address (omega (arith, at)) ∙ elim (turned.anew.lays address) [
          | inl m ↦ absurd (true≢false (sym (other_uses can (number_at g word m.0) (subst (OthersCell can) (sym m.3) u)) ∙ free_at m.0 m.1 (row_in m.0 m.1 m.2)))
          | inr m ↦ m.1 ∙ elim (turned.anew.clears address) [
            | inl k ↦ absurd (not_both can address (own_cell address k.0 k.1
                (and_parts (is_own g x s (before can) k.0) (not (word == (before can)) || get_or row k.0 0 == 0) k.2).0 k.3) u)
            | inr k ↦ k.1
          ]
        ]

    row_used : (address : ℕ) → owns address ≡ true → now address ≢ 0
        → ((c : ℕ) × (c < 2048) × IsHeld (next_held can) (single s c) × (cell_at g (word - 1) c ≡ address)) ⊎ OthersCell can address
    row_used address own_one some = elim (turned.anew.lays address) [
      | inl m ↦ inl (m.0, m.1, row_in m.0 m.1 m.2, m.3)
      | inr m ↦ elim (turned.anew.clears address) [
        | inl k ↦ absurd (some (cells_laid address (owned g address own_one).0 ∙ m.1 ∙ k.4))
        | inr k ↦ elim (owner can address own_one (λ z. some (cells_laid address (owned g address own_one).0 ∙ m.1 ∙ k.1 ∙ z))) [
          | inl o ↦ absurd (let stays = not_cleared o.class (held_own can o.class o.below o.holds) (λ e. k.0 o.class o.below e o.at) in
              m.0 o.class o.below stays.1 (ap (λ w. cell_at g (w - 1) o.class) stays.0 ∙ o.at))
          | inr u ↦ inr u
        ]
      ]
    ]

    laid_anew : IsLaid can word now
    laid_anew = record { word_is = place_set can word now turned.anew.laid turned.anew.places; rest = rest; row = row_set; others = others_stay; used = row_used }

    -- ---- used cells

    used_after : AreUsed taken now
    used_after cell = elim (turned.takes cell) [
      | inl m ↦ m.4 ∙ sym (and_from (owns (16777216 + cell)) (not (now (16777216 + cell) == 0))
          (ap owns (ap (λ n. 16777216 + n) (sym m.3)) ∙ owned_cell g word m.0 (row_room m.0 m.1 m.2) m.1)
          (not_from_false (now (16777216 + cell) == 0) (by_cases (now (16777216 + cell) == 0) (λ t. absurd (laid_some m.0 m.1 m.2 m.3 (eqb-true (now (16777216 + cell)) 0 t))) (λ f. f))))
      | inr m ↦ m.1 ∙ elim (turned.frees cell) [
        | inl k ↦ k.4 ∙ sym (none_there (now (16777216 + cell)) (cleared_none m.0 k.0 k.1 k.2 k.3))
        | inr k ↦ k.1 ∙ can.used cell ∙ ap (λ w. owns (16777216 + cell) && not (w == 0)) (sym (untouched m.0 k.0))
      ]
    ]
      where
        there : (w c : ℕ) → cell_at g (w - 1) c ≡ 16777216 + cell → number_at g w c ≡ cell
        there w c e = number_is can w c cell e

        laid_some : (c : ℕ) → c < 2048 → is_in_row row c ≡ true → number_at g word c ≡ cell → now (16777216 + cell) ≡ 0 → ⊥
        laid_some c below e at zero_word = elim (turned.anew.lays (16777216 + cell)) [
          | inl n ↦ true≢false (sym (eq-eqb (get_or row n.0 0) 0 (sym n.4 ∙ sym (cells_laid (16777216 + cell) (omega arith)) ∙ zero_word)) ∙ not-true (get_or row n.0 0 == 0) n.2)
          | inr n ↦ n.0 c below e (ap (λ k. 16777216 + k) at)
        ]

        none_there : (w : ℕ) → w ≡ 0 → (owns (16777216 + cell) && not (w == 0)) ≡ false
        none_there w e = ap (λ k. owns (16777216 + cell) && not (k == 0)) e ∙ and_none (owns (16777216 + cell))
          where
            and_none : (b : Bool) → (b && false) ≡ false
            and_none true = refl
            and_none false = refl

        cleared_none : ((class : ℕ) → class < 2048 → is_in_row row class ≡ true → number_at g word class ≢ cell)
            → (c : ℕ) → c < 2048 → is_own g x s (before can) c ≡ true → number_at g (before can) c ≡ cell → now (16777216 + cell) ≡ 0
        cleared_none no_row c below own at = cells_laid (16777216 + cell) (omega arith) ∙ elim (turned.anew.lays (16777216 + cell)) [
          | inl n ↦ absurd (no_row n.0 n.1 n.2 (there word n.0 n.3))
          | inr n ↦ n.1 ∙ elim (turned.anew.clears (16777216 + cell)) [
            | inl k ↦ k.4
            | inr k ↦ absurd (let stays = not_cleared c own (λ e. k.0 c below e (ap (λ j. 16777216 + j) at)) in
                no_row c below stays.1 (ap (λ w. number_at g w c) stays.0 ∙ at))
          ]
        ]

        untouched : ((class : ℕ) → class < 2048 → is_in_row row class ≡ true → number_at g word class ≢ cell)
            → ((class : ℕ) → class < 2048 → is_own g x s (before can) class ≡ true → number_at g (before can) class ≢ cell) → now (16777216 + cell) ≡ d (16777216 + cell)
        untouched no_row no_own = cells_laid (16777216 + cell) (omega arith) ∙ elim (turned.anew.lays (16777216 + cell)) [
          | inl n ↦ absurd (no_row n.0 n.1 n.2 (there word n.0 n.3))
          | inr n ↦ n.1 ∙ elim (turned.anew.clears (16777216 + cell)) [
            | inl k ↦ absurd (no_own k.0 k.1 (and_parts (is_own g x s (before can) k.0) (not (word == (before can)) || get_or row k.0 0 == 0) k.2).0 (there (before can) k.0 k.3))
            | inr k ↦ k.1
          ]
        ]

  pub turn_done : (word : ℕ) (row : List ℕ) (now : Reading) (freed taken : ℕ → Bool) → Turned g x s given word row d now tried freed taken
      → ((held : Held) → ((class : ℕ) → class < 2048 → own_word g x s given class ≡ cell_word (tag_of s) (held (single s class)))
      → (class : ℕ) → class < 2048 → get_or row class 0 ≡ cell_word (tag_of s) (held_after held own (single s class)))
      → HasWord g given freed (used_in_row row 2048) (is_some (used_in_row row 2048)) (not (given == 0) && fits g freed (used_in_row row 2048) (given - 1)) word
      → (is_some (used_in_row row 2048) ≡ true → HasRoom g word) → Done can word now taken
  turn_done word row now freed taken turned words has room =
      let at_before : Turned g x s (before can) word row d now tried freed taken = subst (λ b. Turned g x s b word row d now tried freed taken) can.word turned in
      let rows : (c : ℕ) → c < 2048 → get_or row c 0 ≡ cell_word (tag_of s) (next_held can (single s c))
      = λ c below. words held (λ class small. ap (λ b. own_word g x s b class) can.word ∙ own_is g x held s class can.shows small) c below
      ∙ ap (cell_word (tag_of s)) (sym (own_after can c)) in
      let are : used_in_row row 2048 ≡ indexes (next_held can) s = used_are row (next_held can) s rows in
      let free : freed ≡ is_used g x held done (now_words can) s = λ i cell. freed_is can freed at_before.frees cell i in
      let one : HasWord g (before can) freed (used_in_row row 2048) (is_some (used_in_row row 2048)) (not (before can == 0) && fits g freed (used_in_row row 2048) (before can - 1)) word
      = subst (λ b. HasWord g b freed (used_in_row row 2048) (is_some (used_in_row row 2048)) (not (b == 0) && fits g freed (used_in_row row 2048) (b - 1)) word) can.word has in
      let two : HasWord g (before can) (is_used g x held done (now_words can) s) (used_in_row row 2048) (is_some (used_in_row row 2048)) (not (before can == 0) && fits g (is_used g x held done (now_words can) s) (used_in_row row 2048) (before can - 1)) word
      = subst (λ (u : ℕ → Bool). HasWord g (before can) u (used_in_row row 2048) (is_some (used_in_row row 2048)) (not (before can == 0) && fits g u (used_in_row row 2048) (before can - 1)) word) free one in
      let three : HasWord g (before can) (is_used g x held done (now_words can) s) (indexes (next_held can) s) (has_index (next_held can) s) (not (before can == 0) && fits g (is_used g x held done (now_words can) s) (indexes (next_held can) s) (before can - 1)) word
      = subst (λ (l : List ℕ). HasWord g (before can) (is_used g x held done (now_words can) s) l (is_some l) (not (before can == 0) && fits g (is_used g x held done (now_words can) s) l (before can - 1)) word) are two in
      let chosen = chosen_is can (is_used g x held done (now_words can) s) (indexes (next_held can) s) (has_index (next_held can) s) word three in
      let has_room : has_index (next_held can) s ≡ true → HasRoom g word = (λ some. room (ap is_some are ∙ some)) in
      let laid = laid_anew word row now freed taken at_before rows chosen has_room in
      record {
        places = placed_next can word now laid chosen has_room;
        used = used_after word row now freed taken at_before rows chosen has_room;
        rest = laid.rest;
        word_is = laid.word_is;
      }
