-- The changes up to a turn are placed, where the selector's row lies at the place of its word and others' cells are as before.
use Rattle.std.proofs.Common.{◌≡◌, ◌≢◌, ◌==◌, ℕ, ◌+◌, ◌-◌, ◌<◌, ◌≤◌, Bool, true, false, ◌&&◌, ◌||◌, if◌then◌else◌, List, ◌++◌, ◌⊎◌, inl, inr, refl, sym, ap, subst, ◌∙◌, arith}
use Rattle.std.specs.Prelude.{nat_le, nat_lt}
use Rattle.std.proofs.lemmas.Bool.{or_right, eqb-true, eq-eqb, true≢false}
use Rattle.dt_pages.specs.Reading.{Reading}
use Rattle.dt_scratch.specs.declared.reply.Change.{Change}
use Rattle.dt_cells.specs.Regions.{place_of}
use Rattle.dt_cells.specs.Cell.{cell_word}
use Rattle.dt_cells.specs.Held.{Held, IsHeld, held_after, is_changed}
use Rattle.dt_cells.specs.HeldLaws.{by_cases, if_true, if_false}
use Rattle.dt_fit.specs.declared.geometry.Geometry.{Geometry}
use Rattle.dt_fit.specs.Fits.{fits}
use Rattle.dt_fit.specs.Rows.{row_uses}
use Rattle.dt_placing.specs.Rows.{single, indexes, is_some, has_index}
use Rattle.dt_placing.specs.RowsLaws.{same_indexes}
use Rattle.dt_placing.specs.Placing.{cell_at, owns, tag_of, HasRoom, words_after, row_at, is_used, HasWord, IsPlaced, Places, AreUsed}
use Rattle.dt_placing.specs.PlacingLaws.{lt_tested, le_tested, same_used, words_changed, words_unchanged}
use Rattle.dt_placing.specs.Turn.{IsOver, CanTurn}
use Rattle.dt_placing.proofs.OneSelector.{changed_append, others_unchanged, after_others, after_own}
use Rattle.dt_placing.proofs.Others.{now_held, now_words, OthersCell, not_done}

module _ {g : Geometry} {tried : ℕ → Bool} {x : Reading} {held : Held} {done own : List Change} {s given : ℕ} {d : Reading}
    (can : CanTurn g tried x held done own s given d) where
  abbrev pub next : List Change
  next = done ++ own

  abbrev pub next_held : Held
  next_held = held_after held next

  own_changed : is_changed next s ≡ true
  own_changed = changed_append done own s ∙ or_right (is_changed done s) (is_changed own s) can.some

  -- a selector of another number keeps what it has
  pub other_changed : (t : ℕ) → t ≢ s → is_changed next t ≡ is_changed done t
  other_changed t apart = changed_append done own t ∙ ap (λ b. is_changed done t || b) (others_unchanged own s t can.own_each apart) ∙ or_none (is_changed done t)
    where
      or_none : (b : Bool) → (b || false) ≡ b
      or_none true = refl
      or_none false = refl

  pub other_held : (t c : ℕ) → t ≢ s → next_held (single t c) ≡ now_held can (single t c)
  other_held t c apart = after_others held done own (single t c) (others_unchanged own s t can.own_each apart)

  pub other_indexes : (t : ℕ) → t ≢ s → indexes next_held t ≡ indexes (now_held can) t
  other_indexes t apart = same_indexes next_held (now_held can) t 2048 (λ c. other_held t c apart)

  pub own_after : (c : ℕ) → next_held (single s c) ≡ held_after held own (single s c)
  own_after c = after_own held done own (single s c) (not_done can)

  -- where the place word is set last, it is the turn's, and every other word is as it was laid
  module _ (word : ℕ) (now laid : Reading) (places : (address : ℕ) → now address ≡ (if address == place_of s then word else laid address)) where
    pub place_set : now (place_of s) ≡ word
    place_set = places (place_of s) ∙ if_true (place_of s == place_of s) word (laid (place_of s)) (eq-eqb (place_of s) (place_of s) refl)

    pub elsewhere : (address : ℕ) → address ≢ place_of s → now address ≡ laid address
    elsewhere address apart = places address ∙ if_false (address == place_of s) word (laid address)
        (by_cases (address == place_of s) (λ t. absurd (apart (eqb-true address (place_of s) t))) (λ f. f))

    pub in_cells : (address : ℕ) → 16777216 ≤ address → now address ≡ laid address
    in_cells address from = elsewhere address (λ e. (let small : s < 4096 = can.range in let is : address ≡ 8192 + s = e in omega (arith, from, small, is)))

  -- the turn's word stands in the selector's place word, and its row at that place; what is another's is as before
  pub record IsLaid (word : ℕ) (now : Reading) : Type 0 where
    pub word_is : now (place_of s) ≡ word
    pub rest : (address : ℕ) → owns address ≡ false → address ≢ place_of s → now address ≡ d address
    pub row : (c : ℕ) → c < 2048 → IsHeld next_held (single s c) → now (cell_at g (word - 1) c) ≡ cell_word (tag_of s) (next_held (single s c))
    pub others : (address : ℕ) → OthersCell can address → now address ≡ d address
    pub used : (address : ℕ) → owns address ≡ true → now address ≢ 0
        → ((c : ℕ) × (c < 2048) × IsHeld next_held (single s c) × (cell_at g (word - 1) c ≡ address)) ⊎ OthersCell can address

  module _ (word : ℕ) (now : Reading) (laid : IsLaid word now)
      (chosen : HasWord g (x (place_of s)) (is_used g x held done (now_words can) s) (indexes next_held s) (has_index next_held s)
      (has_index held s && fits g (is_used g x held done (now_words can) s) (indexes next_held s) (x (place_of s) - 1)) word)
      (room : has_index next_held s ≡ true → HasRoom g word) where
    abbrev next_words : ℕ → ℕ
    next_words = words_after x next now

    other_word : (t : ℕ) → t ≢ s → next_words t ≡ (now_words can) t
    other_word t apart = by_cases (is_changed done t)
        (λ e. words_changed g x now next t (other_changed t apart ∙ e)
        ∙ laid.rest (place_of t) (small_place (can.below t e)) (λ same. (let is : 8192 + t ≡ 8192 + s = same in apart (omega (arith, is))))
        ∙ sym (words_changed g x d done t e))
        (λ f. words_unchanged g x now next t (other_changed t apart ∙ f) ∙ sym (words_unchanged g x d done t f))
      where
        small_place : t < s → owns (place_of t) ≡ false
        small_place less = by_cases (nat_le 16777216 (8192 + t))
            (λ e. absurd (let from : 16777216 ≤ 8192 + t = le_tested 16777216 (8192 + t) e in let small : s < 4096 = can.range in omega (arith, from, small, less)))
            (λ f. ap (λ b. b && nat_lt (8192 + t) 33554432) f)

    own_word_is : next_words s ≡ word
    own_word_is = words_changed g x now next s own_changed ∙ laid.word_is

    -- ---- turns

    used_next : (turn : ℕ) → turn ≤ s → is_used g x held next next_words turn ≡ is_used g x held done (now_words can) turn
    used_next turn most = same_used g x x held held next done next_words (now_words can) turn (λ t below apart cell. row_at_turn t cell (nat_lt t turn) refl)
      where
        row_at_turn : (t cell : ℕ) (b : Bool) → nat_lt t turn ≡ b
            → row_uses g (row_at x held next next_words turn t) cell ≡ row_uses g (row_at x held done (now_words can) turn t) cell
        row_at_turn t cell true e =
            let apart : t ≢ s = (λ same. (let less : t < turn = lt_tested t turn e in omega (arith, less, most, same))) in
            ap (λ (w : ℕ). row_uses g (if nat_lt t turn then record { place = w - 1; indexes = indexes next_held t } else record { place = x (place_of t) - 1; indexes = indexes held t }) cell) (other_word t apart)
            ∙ ap (λ (l : List ℕ). row_uses g (if nat_lt t turn then record { place = (now_words can) t - 1; indexes = l } else record { place = x (place_of t) - 1; indexes = indexes held t }) cell) (other_indexes t apart)
        row_at_turn t cell false e =
            ap (λ (b : Bool). row_uses g (if b then record { place = next_words t - 1; indexes = indexes next_held t } else record { place = x (place_of t) - 1; indexes = indexes held t }) cell) e
            ∙ sym (ap (λ (b : Bool). row_uses g (if b then record { place = (now_words can) t - 1; indexes = indexes (now_held can) t } else record { place = x (place_of t) - 1; indexes = indexes held t }) cell) e)

    -- a turn's word, by what is used, what is needed and the word
    abbrev Turn : ℕ → (ℕ → Bool) → List ℕ → ℕ → Type 0
    Turn t used needed w = HasWord g (x (place_of t)) used needed (is_some needed) (has_index held t && fits g used needed (x (place_of t) - 1)) w

    turns : (t : ℕ) → is_changed next t ≡ true → IsPlaced g x held next next_words t
    turns t e = by_cases (t == s)
        (λ same. (let is : t ≡ s = eqb-true t s same in
        subst (λ k. Turn k (is_used g x held next next_words k) (indexes next_held k) (next_words k)) (sym is)
        (subst (λ (u : ℕ → Bool). Turn s u (indexes next_held s) (next_words s)) (sym (used_next s (omega arith)))
        (subst (λ w. Turn s (is_used g x held done (now_words can) s) (indexes next_held s) w) (sym own_word_is) chosen))))
        (λ f. (let apart : t ≢ s = (λ is. true≢false (sym (eq-eqb t s is) ∙ f)) in
        let before_it : is_changed done t ≡ true = sym (other_changed t apart) ∙ e in
        let less : t < s = can.below t before_it in
        subst (λ (u : ℕ → Bool). Turn t u (indexes next_held t) (next_words t)) (sym (used_next t (omega (arith, less))))
        (subst (λ (l : List ℕ). Turn t (is_used g x held done (now_words can) t) l (next_words t)) (sym (other_indexes t apart))
        (subst (λ w. Turn t (is_used g x held done (now_words can) t) (indexes (now_held can) t) w) (sym (other_word t apart))
        (can.places.turns t before_it)))))

    next_room : (t : ℕ) → has_index next_held t ≡ true → HasRoom g (next_words t)
    next_room t some = by_cases (t == s)
        (λ same. (let is : t ≡ s = eqb-true t s same in
        subst (λ k. HasRoom g (next_words k)) (sym is) (subst (HasRoom g) (sym own_word_is) (room (subst (λ k. has_index next_held k ≡ true) is some)))))
        (λ f. (let apart : t ≢ s = (λ is. true≢false (sym (eq-eqb t s is) ∙ f)) in
        subst (HasRoom g) (sym (other_word t apart)) (can.places.room t (sym (ap is_some (other_indexes t apart)) ∙ some))))

    -- ---- cells

    cells_set : (t c : ℕ) → c < 2048 → IsHeld next_held (single t c) → now (cell_at g (next_words t - 1) c) ≡ cell_word (tag_of t) (next_held (single t c))
    cells_set t c below h = by_cases (t == s)
        (λ same. (let is : t ≡ s = eqb-true t s same in
        subst (λ k. now (cell_at g (next_words k - 1) c) ≡ cell_word (tag_of k) (next_held (single k c))) (sym is)
        (ap (λ w. now (cell_at g (w - 1) c)) own_word_is ∙ laid.row c below (subst (λ k. IsHeld next_held (single k c)) is h))))
        (λ f. (let apart : t ≢ s = (λ is. true≢false (sym (eq-eqb t s is) ∙ f)) in
        let has : IsHeld (now_held can) (single t c) = (λ none. h (other_held t c apart ∙ none)) in
        ap (λ w. now (cell_at g (w - 1) c)) (other_word t apart)
        ∙ laid.others (cell_at g (now_words can t - 1) c) (record { selector = t; class = c; apart = apart; below = below; holds = has; at = refl })
        ∙ can.places.cells.set t c below has ∙ ap (cell_word (tag_of t)) (sym (other_held t c apart))))

    cells_used : (address : ℕ) → owns address ≡ true → now address ≢ 0
        → (t : ℕ) × (c : ℕ) × (c < 2048) × IsHeld next_held (single t c) × (cell_at g (next_words t - 1) c ≡ address)
    cells_used address own some = elim (laid.used address own some) [
      | inl m ↦ (s, m.0, m.1, m.2, ap (λ w. cell_at g (w - 1) m.0) own_word_is ∙ m.3)
      | inr u ↦ (
        u.selector,
        u.class,
        u.below,
        (λ none. u.holds (sym (other_held u.selector u.class u.apart) ∙ none)),
        ap (λ w. cell_at g (w - 1) u.class) (other_word u.selector u.apart) ∙ u.at,
      )
    ]

    pub placed_next : Places g x held next now
    placed_next = record { turns = turns; room = next_room; cells = record { set = cells_set; used = cells_used } }

  -- what a turn makes
  pub record Done (word : ℕ) (now : Reading) (taken : ℕ → Bool) : Type 0 where
    pub places : Places g x held next now
    pub used : AreUsed taken now
    pub rest : (address : ℕ) → owns address ≡ false → address ≢ place_of s → now address ≡ d address
    pub word_is : now (place_of s) ≡ word

-- what a turn makes whatever was held, and whatever was done
pub turn_over : {g : Geometry} {tried taken : ℕ → Bool} {x d now : Reading} {held : Held} {done own : List Change} {s given word : ℕ} → CanTurn g tried x held done own s given d
    → ((h : Held) (l : List Change) (can : CanTurn g tried x h l own s given d) → Done can word now taken) → IsOver g x own s given word d now tried taken
turn_over can made = record {
  placed = λ h l able. let m = made h l able in (m.places, m.used);
  word_is = sym (made _ _ can).word_is;
  rest = (made _ _ can).rest;
}
