-- What others use when the turn of a selector comes: what is used without the selector's own cells.
use Rattle.std.proofs.Common.{◌≡◌, ◌≢◌, ◌==◌, ℕ, ◌+◌, ◌-◌, ◌*◌, ◌<◌, Bool, true, false, ◌&&◌, not, if◌then◌else◌, List, ◌⊎◌, inl, inr, refl, sym, ap, subst, ◌∙◌, arith}
use Rattle.std.specs.Prelude.{nat_lt}
use Rattle.std.proofs.lemmas.Bool.{and_parts, and_from, not_from_false, not-true, eqb-true, eq-eqb, true≢false}
use Rattle.dt_pages.specs.Reading.{Reading}
use Rattle.dt_scratch.specs.Query.{Query}
use Rattle.dt_scratch.specs.declared.reply.Change.{Change}
use Rattle.dt_cells.specs.Regions.{place_of}
use Rattle.dt_cells.specs.Cell.{cell_word}
use Rattle.dt_cells.specs.Held.{Held, IsHeld, IsInRange, HasBodyInRange, held_after, is_changed}
use Rattle.dt_cells.specs.HeldLaws.{by_cases, if_true, if_false, after_keeps, body_after, unchanged_after}
use Rattle.dt_fit.specs.declared.geometry.Geometry.{Geometry}
use Rattle.dt_fit.specs.declared.geometry.Geometry.TheVariants.{Colours, Displacements}
use Rattle.dt_fit.specs.Geometry.{width_of}
use Rattle.dt_fit.specs.Fits.{fits}
use Rattle.dt_fit.specs.Rows.{PlacedRow, AreIndexes, row_uses}
use Rattle.dt_placing.specs.Rows.{single, indexes, has_index, others_below}
use Rattle.dt_placing.specs.RowsLaws.{all_indexes, has_index_of, one_of_others, other_of, fewer_others, all_others}
use Rattle.dt_placing.specs.Placing.{cell_at, owns, tag_of, place_numbers, Shows, words_after, row_at, is_used, HasWord, word_kept}
use Rattle.dt_placing.specs.PlacingLaws.{some_word, lt_test, ranges, unchanged_indexes, owned_cell, words_unchanged, word_moves}
use Rattle.dt_placing.specs.Turn.{own_word, Laid, number_at, is_own, CanTurn, HasOthers}
use Rattle.dt_placing.proofs.OwnCells.{own_is, uses_index, index_used, one_owner}

pub same_bools : (a b : Bool) → (a ≡ true → b ≡ true) → (b ≡ true → a ≡ true) → a ≡ b
same_bools true b f g = sym (f refl)
same_bools false true f g = g refl
same_bools false false f g = refl

module _ {g : Geometry} {tried : ℕ → Bool} {x : Reading} {held : Held} {done own : List Change} {s given : ℕ} {d : Reading}
    (can : CanTurn g tried x held done own s given d) where
  abbrev pub sh : Shows g x held
  sh = can.shows

  -- what is held, and the place words, as earlier turns left them
  abbrev pub now_held : Held
  now_held = held_after held done

  abbrev pub now_words : ℕ → ℕ
  now_words = words_after x done d

  abbrev pub before : ℕ
  before = word_kept x held s

  pub not_done : is_changed done s ≡ false
  not_done = by_cases (is_changed done s) (λ t. (let less : s < s = can.below s t in absurd (omega (arith, less)))) (λ f. f)

  pub same_held : (c : ℕ) → now_held (single s c) ≡ held (single s c)
  same_held c = unchanged_after held done s not_done (single s c) refl

  pub now_range : (q : Query) → IsHeld now_held q → IsInRange q
  now_range = after_keeps IsInRange held done sh.range (ranges 1 1 done can.earlier)

  pub now_body : (q : Query) → HasBodyInRange (now_held q)
  now_body = body_after 1 1 held done sh.body can.earlier

  pub kept_word : has_index held s ≡ true → now_words s ≡ before
  kept_word some = words_unchanged g x d done s not_done ∙ sym (if_true (has_index held s) (x (place_of s)) 0 some)

  pub own_held : (c : ℕ) → c < 2048 → is_own g x s before c ≡ true → IsHeld held (single s c)
  own_held c below e none =
      true≢false (sym (eq-eqb (own_word g x s before c) 0 (own_is g x held s c sh below ∙ ap (cell_word (tag_of s)) none)) ∙ not-true (own_word g x s before c == 0) e)

  pub held_own : (c : ℕ) → c < 2048 → IsHeld held (single s c) → is_own g x s before c ≡ true
  held_own c below h = not_from_false (own_word g x s before c == 0) (by_cases (own_word g x s before c == 0)
      (λ t. absurd (some_word s (held (single s c)) h (sym (own_is g x held s c sh below) ∙ eqb-true (own_word g x s before c) 0 t)))
      (λ f. f))

  pub row_now : (t cell : ℕ) → t ≢ s
      → row_uses g (row_at x held done now_words s t) cell ≡ row_uses g (record { place = now_words t - 1; indexes = indexes now_held t }) cell
  row_now t cell apart = by_cases (nat_lt t s)
      (λ less. ap (λ (b : Bool). row_uses g (if b then record { place = now_words t - 1; indexes = indexes now_held t } else record { place = x (place_of t) - 1; indexes = indexes held t }) cell) less)
      (λ more. ap (λ (b : Bool). row_uses g (if b then record { place = now_words t - 1; indexes = indexes now_held t } else record { place = x (place_of t) - 1; indexes = indexes held t }) cell) more
      ∙ ap (λ (l : List ℕ). row_uses g (record { place = x (place_of t) - 1; indexes = l }) cell) (sym (unchanged_indexes held done t (later more)))
      ∙ ap (λ w. row_uses g (record { place = w - 1; indexes = indexes now_held t }) cell) (sym (words_unchanged g x d done t (later more))))
    where
      later : nat_lt t s ≡ false → is_changed done t ≡ false
      later more = by_cases (is_changed done t) (λ e. absurd (true≢false (sym (lt_test t s (can.below t e)) ∙ more))) (λ f. f)

  pub number_is : (w c cell : ℕ) → cell_at g (w - 1) c ≡ 16777216 + cell → number_at g w c ≡ cell
  number_is w c cell e = let f : 16777216 + (width_of g * (w - 1) + c) ≡ 16777216 + cell = e in omega (arith, f)

  -- a cell of the selector's own
  pub record OwnCell (address : ℕ) : Type 0 where
    pub class : ℕ
    pub below : class < 2048
    pub holds : IsHeld held (single s class)
    pub at : cell_at g (before - 1) class ≡ address

  -- a cell of another selector
  pub record OthersCell (address : ℕ) : Type 0 where
    pub selector : ℕ
    pub class : ℕ
    pub apart : selector ≢ s
    pub below : class < 2048
    pub holds : IsHeld now_held (single selector class)
    pub at : cell_at g (now_words selector - 1) class ≡ address

  -- a used cell is one or the other
  pub owner : (address : ℕ) → owns address ≡ true → d address ≢ 0 → OwnCell address ⊎ OthersCell address
  owner address own_one some =
      let u = can.places.cells.used address own_one some in
      by_cases (u.0 == s)
      (λ t. (let same : u.0 ≡ s = eqb-true u.0 s t in
      let h : IsHeld now_held (single s u.1) = subst (λ k. IsHeld now_held (single k u.1)) same u.3 in
      let has : IsHeld held (single s u.1) = (λ none. h (same_held u.1 ∙ none)) in
      inl (record {
        class = u.1;
        below = u.2;
        holds = has;
        at = ap (λ w. cell_at g (w - 1) u.1) (sym (kept_word (has_index_of held s u.1 u.2 has))) ∙ ap (λ k. cell_at g (now_words k - 1) u.1) (sym same) ∙ u.4;
      })))
      (λ f. inr (record { selector = u.0; class = u.1; apart = λ e. true≢false (sym (eq-eqb u.0 s e) ∙ f); below = u.2; holds = u.3; at = u.4 }))

  -- no cell is both
  pub not_both : (address : ℕ) → OwnCell address → OthersCell address → ⊥
  not_both address o u = u.apart (sym (one_owner g now_words now_held d can.places.cells now_body s u.selector o.class u.class o.below u.below
      (λ none. o.holds (sym (same_held o.class) ∙ none)) u.holds
      (ap (λ w. cell_at g (w - 1) o.class) (kept_word (has_index_of held s o.class o.below o.holds)) ∙ o.at ∙ sym u.at)))

  pub others_word : (address : ℕ) (u : OthersCell address) → d address ≡ cell_word (tag_of u.selector) (now_held (single u.selector u.class))
  others_word address u = ap d (sym u.at) ∙ can.places.cells.set u.selector u.class u.below u.holds

  pub others_used : (cell : ℕ) → OthersCell (16777216 + cell) → tried cell ≡ true
  others_used cell u =
      let own_one : owns (16777216 + cell) ≡ true = ap owns (sym u.at)
      ∙ owned_cell g (now_words u.selector) u.class (can.places.room u.selector (has_index_of now_held u.selector u.class u.below u.holds)) u.below in
      let some : (d (16777216 + cell) == 0) ≡ false = by_cases (d (16777216 + cell) == 0)
      (λ t. absurd (some_word u.selector (now_held (single u.selector u.class)) u.holds (sym (others_word (16777216 + cell) u) ∙ eqb-true (d (16777216 + cell)) 0 t))) (λ f. f) in
      can.used cell ∙ and_from (owns (16777216 + cell)) (not (d (16777216 + cell) == 0)) own_one (not_from_false (d (16777216 + cell) == 0) some)

  -- a cell that another's row uses is another's
  pub used_by_other : (cell : ℕ) → is_used g x held done now_words s cell ≡ true → OthersCell (16777216 + cell)
  used_by_other cell e =
      let o = other_of (row_at x held done now_words s) (λ row. row_uses g row cell) s 4096 e in
      let i = index_used g now_held o.0 (now_words o.0 - 1) cell (sym (row_now o.0 cell o.1.1) ∙ o.1.2) in
      record { selector = o.0; class = i.0; apart = o.1.1; below = i.1.0; holds = i.1.1; at = ap (λ n. 16777216 + n) i.1.2 }

  pub other_uses : (cell : ℕ) → OthersCell (16777216 + cell) → is_used g x held done now_words s cell ≡ true
  other_uses cell u =
      one_of_others (row_at x held done now_words s) (λ row. row_uses g row cell) s 4096 u.selector (now_range (single u.selector u.class) u.holds).selector u.apart
      (row_now u.selector cell u.apart ∙ uses_index g now_held u.selector (now_words u.selector - 1) u.class cell u.below u.holds
      (number_is (now_words u.selector) u.class cell u.at))

  -- the cells that stay used when the selector's own are free are those that others use
  pub freed_is : (freed : ℕ → Bool) → Laid (number_at g before) (is_own g x s before) (λ class. false) 2048 tried freed
      → (cell : ℕ) → freed cell ≡ is_used g x held done now_words s cell
  freed_is freed frees cell = same_bools (freed cell) (is_used g x held done now_words s cell) forth back
    where
      forth : freed cell ≡ true → is_used g x held done now_words s cell ≡ true
      forth f = elim (frees cell) [
        | inl m ↦ absurd (true≢false (sym f ∙ m.4))
        | inr m ↦ (let parts = and_parts (owns (16777216 + cell)) (not (d (16777216 + cell) == 0)) (sym (can.used cell) ∙ sym m.1 ∙ f) in
            elim (owner (16777216 + cell) parts.0 (λ z. true≢false (sym (eq-eqb (d (16777216 + cell)) 0 z) ∙ not-true (d (16777216 + cell) == 0) parts.1))) [
              | inl o ↦ absurd (m.0 o.class o.below (held_own o.class o.below o.holds) (number_is before o.class cell o.at))
              | inr u ↦ other_uses cell u
            ])
      ]

      back : is_used g x held done now_words s cell ≡ true → freed cell ≡ true
      back e =
          let u = used_by_other cell e in
          elim (frees cell) [
            | inl m ↦ absurd (not_both (16777216 + cell)
                (record { class = m.0; below = m.1; holds = own_held m.0 m.1 m.2; at = ap (λ n. 16777216 + n) m.3 }) u)
            | inr m ↦ m.1 ∙ others_used cell u
          ]

  indexes_of_row : (t : ℕ) → AreIndexes (row_at x held done now_words s t).indexes
  indexes_of_row t = elim (nat_lt t s) as (λ b. let r : PlacedRow = (if b then record { place = now_words t - 1; indexes = indexes now_held t } else record { place = x (place_of t) - 1; indexes = indexes held t }) in AreIndexes r.indexes) [
    | true ↦ all_indexes (λ class. class < 2048) now_held t 2048 (λ class below h. below)
    | false ↦ all_indexes (λ class. class < 2048) held t 2048 (λ class below h. below)
  ]

  -- they are those of fewer rows than there are selectors
  pub others : HasOthers g x s given tried
  others = record {
    rows = others_below (row_at x held done now_words s) s 4096;
    few = fewer_others (row_at x held done now_words s) s 4096 can.range;
    are_rows = all_others (λ row. AreIndexes row.indexes) (row_at x held done now_words s) s 4096 indexes_of_row;
    cells = λ freed frees cell is. sym (freed_is freed (subst (λ b. Laid (number_at g b) (is_own g x s b) (λ class. false) 2048 tried freed) can.word frees) cell) ∙ is;
  }

  some_numbers : (h : Geometry) → 0 < place_numbers h
  some_numbers Colours = omega arith
  some_numbers Displacements = omega arith

  pub given_room : given - 1 < place_numbers g
  given_room = subst (λ b. b - 1 < place_numbers g) (sym can.word) (by_cases (has_index held s)
      (λ t. subst (λ b. b - 1 < place_numbers g) (sym (if_true (has_index held s) (x (place_of s)) 0 t)) (sh.room s t).within)
      (λ f. subst (λ b. b - 1 < place_numbers g) (sym (if_false (has_index held s) (x (place_of s)) 0 f)) (some_numbers g)))

  -- the word that the code chose is that of the turn
  pub chosen_is : (used : ℕ → Bool) (needed : List ℕ) (some : Bool) (word : ℕ)
      → HasWord g before used needed some (not (before == 0) && fits g used needed (before - 1)) word
      → HasWord g (x (place_of s)) used needed some (has_index held s && fits g used needed (x (place_of s) - 1)) word
  chosen_is used needed some word has = by_cases (has_index held s)
      (λ t. (let e : before ≡ x (place_of s) = if_true (has_index held s) (x (place_of s)) 0 t in
      let nonzero : not (x (place_of s) == 0) ≡ true = not_from_false (x (place_of s) == 0) (by_cases (x (place_of s) == 0)
      (λ z. (let room : 0 < x (place_of s) = (sh.room s t).some in let none : x (place_of s) ≡ 0 = eqb-true (x (place_of s)) 0 z in absurd (omega (arith, room, none)))) (λ f. f)) in
      subst (λ b. HasWord g (x (place_of s)) used needed some (b && fits g used needed (x (place_of s) - 1)) word) (nonzero ∙ sym t)
      (subst (λ b. HasWord g b used needed some (not (b == 0) && fits g used needed (b - 1)) word) e has)))
      (λ f. (let e : before ≡ 0 = if_false (has_index held s) (x (place_of s)) 0 f in
      let zeroed : HasWord g 0 used needed some false word = subst (λ b. HasWord g b used needed some (not (b == 0) && fits g used needed (b - 1)) word) e has in
      subst (λ b. HasWord g (x (place_of s)) used needed some (b && fits g used needed (x (place_of s) - 1)) word) (sym f)
      (word_moves g 0 (x (place_of s)) used needed some false word (λ t. absurd (true≢false (sym t))) zeroed)))
