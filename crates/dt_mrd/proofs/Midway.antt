-- One turn of a row: what is used without its own cells is what other rows use, so that its tag is that of the rule.
use Rattle.std.proofs.Common.{◌≡◌, ◌≢◌, ◌==◌, ℕ, suc, ◌+◌, ◌-◌, ◌*◌, ◌<◌, Bool, true, false, ◌&&◌, not, inl, inr, sym, ap, subst, ◌∙◌, arith}
use Rattle.std.proofs.lemmas.Bool.{and_parts, and_from, not_from_false, eqb-true, eq-eqb, true≢false}
use Rattle.dt_pages.specs.Reading.{Reading}
use Rattle.dt_cells.specs.Held.{Row}
use Rattle.dt_cells.specs.HeldLaws.{by_cases, if_true, if_false}
use Rattle.dt_placing.specs.Turn.{Laid}
use Rattle.dt_mrd.specs.Rows.{HasIndex, IsRow, comes_before}
use Rattle.dt_mrd.specs.Reading.{owns, cell_at}
use Rattle.dt_mrd.specs.ReadingLaws.{owned_cell, room_some, row_of, index_in_range}
use Rattle.dt_mrd.specs.Placing.{IsTabled, Rows, HasTag, HasCell, IsUsed, Fits, IsPlaced}
use Rattle.dt_mrd.specs.Midway.{HasNow, IsNow, tag_now, code_now, Midway, Touches, IsTurn, IsRowOf, FitsIn, IsChosen}
use Rattle.dt_mrd.proofs.Order.{before_strict, before_total}

pub not_itself : (row turn : Row) → comes_before row turn ≡ true → row ≢ turn
not_itself row turn e same =
    let itself : comes_before turn turn ≡ true = subst (λ (r : Row). comes_before r turn ≡ true) same e in
    true≢false (sym itself ∙ before_strict turn turn itself)

-- ---- the rows as they are now

pub now_row : (rows : Rows) (done : Row → Bool) (row : Row) (class : ℕ) → HasNow rows done row class → IsNow rows done row
now_row rows done row class has = elim has [
  | inl a ↦ inl (a.0, row_of rows.next row class a.1)
  | inr b ↦ inr (b.0, row_of rows.held row class b.1, row_of rows.next row class b.2)
]

pub now_next : (rows : Rows) (done : Row → Bool) (row : Row) (class : ℕ) → HasNow rows done row class → HasIndex rows.next row class
now_next rows done row class has = elim has [ inl a ↦ a.1 | inr b ↦ b.2 ]

pub is_next : (rows : Rows) (done : Row → Bool) (row : Row) → IsNow rows done row → IsRow rows.next row
is_next rows done row is = elim is [ inl a ↦ a.1 | inr b ↦ b.2 ]

pub tag_done : (rows : Rows) (done : Row → Bool) (row : Row) → done row ≡ true → tag_now rows done row ≡ rows.after row
tag_done rows done row e = if_true (done row) (rows.after row) (rows.before row) e

pub tag_waits : (rows : Rows) (done : Row → Bool) (row : Row) → done row ≡ false → tag_now rows done row ≡ rows.before row
tag_waits rows done row e = if_false (done row) (rows.after row) (rows.before row) e

-- two cells of rows with different tags are different words
pub word_tag : (tag other code more : ℕ) → code < 4294967296 → more < 4294967296 → tag * 4294967296 + code ≡ other * 4294967296 + more → tag ≡ other
word_tag tag other code more small less e = omega (arith, small, less, e)

module _ (rows : Rows) (done : Row → Bool) (d : Reading) (used taken : ℕ → Bool) (tabled : IsTabled rows.next) (m : Midway rows done d used taken) where
  -- a cell is of one row
  pub now_one : (row other : Row) (class k : ℕ) → HasNow rows done row class → HasNow rows done other k
      → cell_at (tag_now rows done row) class ≡ cell_at (tag_now rows done other) k → row ≡ other
  now_one row other class k has is same =
      m.apart row other (now_row rows done row class has) (now_row rows done other k is)
      (word_tag (tag_now rows done row) (tag_now rows done other) (code_now rows done row class) (code_now rows done other k)
      (m.small row class has) (m.small other k is) (sym (m.set row class has) ∙ ap d same ∙ m.set other k is))

  pub now_some : (row : Row) (class : ℕ) → HasNow rows done row class → d (cell_at (tag_now rows done row) class) ≢ 0
  now_some row class has z =
      let room : 0 < tag_now rows done row = (m.room row (now_row rows done row class has)).some in
      let none : tag_now rows done row * 4294967296 + code_now rows done row class ≡ 0 = sym (m.set row class has) ∙ z in
      omega (arith, room, none)

  pub now_owned : (row : Row) (class : ℕ) → HasNow rows done row class → owns (cell_at (tag_now rows done row) class) ≡ true
  now_owned row class has = owned_cell (tag_now rows done row) class (m.room row (now_row rows done row class has))
      (index_in_range rows.next row.0 row.1 class tabled (now_next rows done row class has))

  -- it is used
  pub now_used : (row : Row) (class : ℕ) → HasNow rows done row class → used (tag_now rows done row - 1 + class) ≡ true
  now_used row class has =
      let cell : ℕ = tag_now rows done row - 1 + class in
      m.used_are cell
      ∙ and_from (owns (67108864 + cell)) (not (d (67108864 + cell) == 0)) (now_owned row class has)
      (not_from_false (d (67108864 + cell) == 0) (by_cases (d (67108864 + cell) == 0)
      (λ t. absurd (now_some row class has (eqb-true (d (67108864 + cell)) 0 t))) (λ f. f)))

  -- and a used cell is one
  pub used_now : (cell : ℕ) → used cell ≡ true
      → (row : Row) × (class : ℕ) × HasNow rows done row class × (cell_at (tag_now rows done row) class ≡ 67108864 + cell)
  used_now cell e =
      let parts = and_parts (owns (67108864 + cell)) (not (d (67108864 + cell) == 0)) (sym (m.used_are cell) ∙ e) in
      m.rest (67108864 + cell) parts.0 (λ z. true≢false (sym parts.1 ∙ ap not (eq-eqb (d (67108864 + cell)) 0 z)))

  -- ---- without the cells of the row whose turn it is

  module _ (touched : Row → Bool) (touches : Touches rows touched) (turn : Row) (is_turn : IsTurn touched done turn)
      (before tag : ℕ) (old new : ℕ → Bool) (of : IsRowOf rows turn before old new)
      (freed : ℕ → Bool) (frees : Laid (λ class. before - 1 + class) (λ class. old class && new class) (λ class. false) 2048 used freed)
      (after : Row → ℕ) (same_after : (row : Row) → row ≢ turn → IsRow rows.next row → after row ≡ rows.after row) where
    -- the row's own cell now, if its turn isn't over
    pub own_now : (class : ℕ) → old class ≡ true → new class ≡ true → HasNow rows done turn class
    own_now class o n = inr (is_turn.waits, of.old_is class o, of.new_is class n)

    pub own_parts : (class : ℕ) → HasNow rows done turn class → (old class && new class) ≡ true
    own_parts class has = elim has [
      | inl a ↦ absurd (true≢false (sym a.0 ∙ is_turn.waits))
      | inr b ↦ and_from (old class) (new class) (of.old_has class b.1) (of.new_has class b.2)
    ]

    pub own_tag : IsRow rows.held turn → tag_now rows done turn ≡ before
    own_tag is = tag_waits rows done turn is_turn.waits ∙ sym (of.before_is is)

    pub freed_other : (cell : ℕ) → freed cell ≡ true
        → (row : Row) × (class : ℕ) × HasNow rows done row class × (row ≢ turn) × (cell_at (tag_now rows done row) class ≡ 67108864 + cell)
    freed_other cell e = elim (frees cell) [
      | inl own ↦ absurd (true≢false (sym e ∙ own.4))
      | inr rest ↦ (let n = used_now cell (sym rest.1 ∙ e) in (
        n.0,
        n.1,
        n.2,
        (λ same. (let has : HasNow rows done turn n.1 = subst (λ (r : Row). HasNow rows done r n.1) same n.2 in
            let parts = and_parts (old n.1) (new n.1) (own_parts n.1 has) in
            let own : IsRow rows.held turn = row_of rows.held turn n.1 (of.old_is n.1 parts.0) in
            let at : 67108864 + (tag_now rows done turn - 1 + n.1) ≡ 67108864 + cell = subst (λ (r : Row). cell_at (tag_now rows done r) n.1 ≡ 67108864 + cell) same n.3 in
            let tags : tag_now rows done turn ≡ before = own_tag own in
            rest.0 n.1 (index_in_range rows.next turn.0 turn.1 n.1 tabled (of.new_is n.1 parts.1)) (own_parts n.1 has) (omega (arith, at, tags)))),
        n.3,
      ))
    ]

    pub freed_has : (row : Row) (class : ℕ) → row ≢ turn → HasNow rows done row class → freed (tag_now rows done row - 1 + class) ≡ true
    freed_has row class differs has = elim (frees (tag_now rows done row - 1 + class)) [
      | inl own ↦ (let parts = and_parts (old own.0) (new own.0) own.2 in
          let tags : tag_now rows done turn ≡ before = own_tag (row_of rows.held turn own.0 (of.old_is own.0 parts.0)) in
          let at : before - 1 + own.0 ≡ tag_now rows done row - 1 + class = own.3 in
          let cell : 67108864 + (tag_now rows done row - 1 + class) ≡ 67108864 + (tag_now rows done turn - 1 + own.0) = omega (arith, at, tags) in
          absurd (differs (now_one row turn class own.0 has (own_now own.0 parts.0 parts.1) cell)))
      | inr rest ↦ rest.1 ∙ now_used row class has
    ]

    -- ---- which rows there are by the rule

    after_done : (row : Row) → row ≢ turn → IsRow rows.next row → done row ≡ true → after row ≡ tag_now rows done row
    after_done row differs is e = same_after row differs is ∙ sym (tag_done rows done row e)

    after_same : (row : Row) → row ≢ turn → IsRow rows.next row → touched row ≡ false → after row ≡ tag_now rows done row
    after_same row differs is f = same_after row differs is ∙ touches.tags row f is ∙ sym (tag_waits rows done row (is_turn.others row f))

    earlier_done : (row : Row) → comes_before row turn ≡ true → touched row ≡ true → done row ≡ true
    earlier_done row e t = is_turn.order row t (not_itself row turn e) ∙ e

    later_waits : (row : Row) → comes_before turn row ≡ true → done row ≡ false
    later_waits row e = by_cases (touched row)
        (λ t. is_turn.order row t (λ same. not_itself turn row e (sym same)) ∙ before_strict turn row e)
        (λ f. is_turn.others row f)

    later_differs : (row : Row) → comes_before turn row ≡ true → row ≢ turn
    later_differs row e same = not_itself turn row e (sym same)

    pub cell_is_now : (row : Row) (t class : ℕ) → HasCell (record rows { after = after }) turn row t class
        → HasNow rows done row class × (row ≢ turn) × (tag_now rows done row ≡ t)
    cell_is_now row t class has = elim has [
      | inl over ↦ by_cases (touched row)
          (λ e. (
            inl (earlier_done row over.0 e, over.1),
            not_itself row turn over.0,
            sym (after_done row (not_itself row turn over.0) (row_of rows.next row class over.1) (earlier_done row over.0 e)) ∙ over.2,
          ))
          (λ f. (
            inr (is_turn.others row f, touches.kept row class f over.1, over.1),
            not_itself row turn over.0,
            sym (after_same row (not_itself row turn over.0) (row_of rows.next row class over.1) f) ∙ over.2,
          ))
      | inr waits ↦ (inr (later_waits row waits.0, waits.1, waits.2), later_differs row waits.0, tag_waits rows done row (later_waits row waits.0) ∙ waits.3)
    ]

    pub now_is_cell : (row : Row) (class : ℕ) → row ≢ turn → HasNow rows done row class
        → HasCell (record rows { after = after }) turn row (tag_now rows done row) class
    now_is_cell row class differs has = elim has [
      | inl a ↦ by_cases (touched row)
          (λ t. inl (sym (is_turn.order row t differs) ∙ a.0, a.1, after_done row differs (row_of rows.next row class a.1) a.0))
          (λ f. absurd (true≢false (sym a.0 ∙ is_turn.others row f)))
      | inr b ↦ by_cases (comes_before row turn)
          (λ t. by_cases (touched row)
          (λ u. absurd (true≢false (sym (earlier_done row t u) ∙ b.0)))
          (λ f. inl (t, b.2, after_same row differs (row_of rows.next row class b.2) f)))
          (λ f. inr (before_total row turn differs f, b.1, b.2, sym (tag_waits rows done row b.0)))
    ]

    pub tag_is_now : (row : Row) (t : ℕ) → HasTag (record rows { after = after }) turn row t
        → IsNow rows done row × (row ≢ turn) × (tag_now rows done row ≡ t)
    tag_is_now row t has = elim has [
      | inl over ↦ by_cases (touched row)
          (λ e. (
            inl (earlier_done row over.0 e, over.1),
            not_itself row turn over.0,
            sym (after_done row (not_itself row turn over.0) over.1 (earlier_done row over.0 e)) ∙ over.2,
          ))
          (λ f. (
            inr (is_turn.others row f, (over.1.0, touches.kept row over.1.0 f over.1.1), over.1),
            not_itself row turn over.0,
            sym (after_same row (not_itself row turn over.0) over.1 f) ∙ over.2,
          ))
      | inr waits ↦ (inr (later_waits row waits.0, waits.1, waits.2), later_differs row waits.0, tag_waits rows done row (later_waits row waits.0) ∙ waits.3)
    ]

    pub now_is_tag : (row : Row) → row ≢ turn → IsNow rows done row → HasTag (record rows { after = after }) turn row (tag_now rows done row)
    now_is_tag row differs is = elim is [
      | inl a ↦ by_cases (touched row)
          (λ t. inl (sym (is_turn.order row t differs) ∙ a.0, a.1, after_done row differs a.1 a.0))
          (λ f. absurd (true≢false (sym a.0 ∙ is_turn.others row f)))
      | inr b ↦ by_cases (comes_before row turn)
          (λ t. by_cases (touched row)
          (λ u. absurd (true≢false (sym (earlier_done row t u) ∙ b.0)))
          (λ f. inl (t, b.2, after_same row differs b.2 f)))
          (λ f. inr (before_total row turn differs f, b.1, b.2, sym (tag_waits rows done row b.0)))
    ]

    -- what is used without the row's own cells is what the rule says that other rows use
    pub used_if_freed : (t class : ℕ) → freed (t - 1 + class) ≡ true → IsUsed (record rows { after = after }) turn (cell_at t class)
    used_if_freed t class e =
        let o = freed_other (t - 1 + class) e in
        (o.0, tag_now rows done o.0, o.1, now_is_cell o.0 o.1 o.3 o.2, o.4)

    pub freed_if_used : (t class : ℕ) → IsUsed (record rows { after = after }) turn (cell_at t class) → freed (t - 1 + class) ≡ true
    freed_if_used t class u =
        let n = cell_is_now u.0 u.1 u.2 u.3 in
        let at : 67108864 + (u.1 - 1 + u.2) ≡ 67108864 + (t - 1 + class) = u.4 in
        let tags : tag_now rows done u.0 ≡ u.1 = n.2 in
        subst (λ c. freed c ≡ true) (omega (arith, at, tags)) (freed_has u.0 u.2 n.1 n.0)

    pub fits_of : (t : ℕ) → FitsIn freed new t → Fits (record rows { after = after }) turn t
    fits_of t fits = λ class has used. true≢false (sym (freed_if_used t class used) ∙ fits class (of.new_has class has))

    pub fits_in : (t : ℕ) → Fits (record rows { after = after }) turn t → FitsIn freed new t
    fits_in t fits = λ class n. by_cases (freed (t - 1 + class))
        (λ e. absurd (fits class (of.new_is class n) (used_if_freed t class e)))
        (λ f. f)

    -- ---- the displacements of others

    module _ (given : ℕ → Bool) (gives : (displacement : ℕ) → given displacement ≡ (not (suc displacement == before) && taken displacement)) where
      pub own_is_now : IsRow rows.held turn → IsNow rows done turn
      own_is_now is = inr (is_turn.waits, is, of.is)

      pub given_has : (row : Row) (displacement : ℕ) → row ≢ turn → IsNow rows done row → tag_now rows done row ≡ suc displacement → given displacement ≡ true
      given_has row displacement differs is e = gives displacement
          ∙ and_from (not (suc displacement == before)) (taken displacement)
          (not_from_false (suc displacement == before) (by_cases (suc displacement == before)
          (λ t. (let same : suc displacement ≡ before = eqb-true (suc displacement) before t in
          let own : IsRow rows.held turn = of.was (λ z. (let none : suc displacement ≡ 0 = same ∙ z in omega (arith, none))) in
          absurd (differs (m.apart row turn is (own_is_now own) (e ∙ same ∙ sym (own_tag own))))))
          (λ f. f)))
          (m.taken_by row is displacement e)

      pub given_of : (displacement : ℕ) → given displacement ≡ true
          → (row : Row) × IsNow rows done row × (row ≢ turn) × (tag_now rows done row ≡ suc displacement)
      given_of displacement e =
          let parts = and_parts (not (suc displacement == before)) (taken displacement) (sym (gives displacement) ∙ e) in
          let n = m.taken_of displacement parts.1 in (
            n.0,
            n.1,
            (λ same. elim (subst (λ (r : Row). IsNow rows done r) same n.1) [
              | inl a ↦ absurd (true≢false (sym a.0 ∙ is_turn.waits))
              | inr b ↦ (let tags : suc displacement ≡ before = sym n.2 ∙ ap (tag_now rows done) same ∙ own_tag b.1 in
                  true≢false (sym parts.0 ∙ ap not (eq-eqb (suc displacement) before tags)))
            ]),
            n.2,
          )

      alone_of : (t : ℕ) → 0 < t → given (t - 1) ≡ false → (row : Row) → HasTag (record rows { after = after }) turn row t → ⊥
      alone_of t some free row has =
          let n = tag_is_now row t has in
          let e : t ≡ suc (t - 1) = omega (arith, some) in
          true≢false (sym (given_has row (t - 1) n.1 n.0 (n.2 ∙ e)) ∙ free)

      free_of : (t : ℕ) → 0 < t → ((row : Row) → HasTag (record rows { after = after }) turn row t → ⊥) → given (t - 1) ≡ false
      free_of t some alone = by_cases (given (t - 1))
          (λ e. (let o = given_of (t - 1) e in
          let same : suc (t - 1) ≡ t = omega (arith, some) in
          absurd (alone o.0 (subst (HasTag (record rows { after = after }) turn o.0) (o.3 ∙ same) (now_is_tag o.0 o.2 o.1)))))
          (λ f. f)

      -- ---- the rule

      before_some : IsRow rows.held turn → before ≢ 0
      before_some is z = room_some (tag_now rows done turn) (m.room turn (own_is_now is)) (own_tag is ∙ z)

      pub placed_if_chosen : IsChosen freed given new before tag → IsPlaced (record rows { after = after }) turn tag
      placed_if_chosen chosen = elim chosen [
        | inl stays ↦ (let own : IsRow rows.held turn = of.was stays.0 in
            inl ((own, subst (Fits (record rows { after = after }) turn) (of.before_is own) (fits_of before stays.1)), stays.2 ∙ of.before_is own))
        | inr moves ↦ inr (
          (λ may. moves.0 (before_some may.0) (subst (FitsIn freed new) (sym (of.before_is may.0)) (fits_in (rows.before turn) may.1))),
          record {
            some = moves.1.some;
            fits = record { fits = fits_of tag moves.1.fits; alone = alone_of tag moves.1.some moves.1.alone };
            none_below = λ lower some less has. moves.1.none_below lower some less (fits_in lower has.fits) (free_of lower some has.alone);
          },
        )
      ]
