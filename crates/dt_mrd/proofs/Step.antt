-- One turn of a row: the words, the used cells and the taken displacements are those of the rows after it.
use Rattle.std.proofs.Common.{◌≡◌, ◌≢◌, ◌==◌, ℕ, suc, ◌+◌, ◌-◌, ◌*◌, ◌<◌, Bool, true, false, ◌&&◌, not, List, [], ◌∷◌, ◌++◌, length, ◌⊎◌, inl, inr, refl, sym, ap, subst, ◌∙◌, arith}
use Rattle.std.specs.Prelude.{nat_lt}
use Rattle.std.proofs.lemmas.Bool.{and_parts, and_from, or_left, or_right, not_from_false, eqb-true, eq-eqb, true≢false}
use Rattle.std.proofs.lemmas.List.{length-append}
use Rattle.dt_pages.specs.Reading.{Reading}
use Rattle.dt_scratch.specs.declared.reply.Answer.{Answer}
use Rattle.dt_cells.specs.Held.{Row}
use Rattle.dt_cells.specs.HeldLaws.{by_cases, or_true, if_true, if_false}
use Rattle.dt_placing.specs.Rows.{is_understood}
use Rattle.dt_placing.specs.PlacingLaws.{lt_test}
use Rattle.dt_mrd.specs.Rows.{sent, IsRow, next_row, comes_before}
use Rattle.dt_mrd.specs.Reading.{owns, cell_at}
use Rattle.dt_mrd.specs.ReadingLaws.{owned_cell, row_of, index_in_range, next_is_row, small_answer}
use Rattle.dt_mrd.specs.Placing.{IsTabled, HasRoom, Rows, code_of, code_of_answer, IsPlaced}
use Rattle.dt_mrd.specs.Midway.{HasNow, IsNow, tag_now, code_now, Midway, Touches, IsTurn, IsRowOf, FitsIn, IsChosen, Turned}
use Rattle.dt_mrd.proofs.Order.{before_strict}
use Rattle.dt_mrd.proofs.Midway.{now_next, is_next, tag_done, tag_waits, now_one, now_some, now_owned, own_now, own_parts, own_tag, freed_other, freed_has, given_has, given_of, placed_if_chosen}

same_bools : (a b : Bool) → (a ≡ true → b ≡ true) → (b ≡ true → a ≡ true) → a ≡ b
same_bools true b f g = sym (f refl)
same_bools false true f g = g refl
same_bools false false f g = refl

-- a row that follows another has its turn before it
pub child_first : (s : ℕ) (p : List ℕ) (class : ℕ) → comes_before (s, p ++ (class ∷ [])) (s, p) ≡ true
child_first s p class =
    let long : length (p ++ (class ∷ [])) ≡ length p + length (class ∷ []) = length-append p (class ∷ []) in
    or_right (nat_lt s s) _ (and_from (s == s) _ (eq-eqb s s refl)
    (or_left (nat_lt (length p) (length (p ++ (class ∷ [])))) _ (lt_test (length p) (length (p ++ (class ∷ []))) (omega (arith, long)))))

chosen_fits : (freed given new : ℕ → Bool) (before tag : ℕ) → IsChosen freed given new before tag → FitsIn freed new tag
chosen_fits freed given new before tag chosen = elim chosen [
  | inl stays ↦ subst (FitsIn freed new) (sym stays.2) stays.1
  | inr moves ↦ moves.1.fits
]

module _ (rows : Rows) (done : Row → Bool) (d : Reading) (used taken : ℕ → Bool) (tabled : IsTabled rows.next) (m : Midway rows done d used taken)
    (touched : Row → Bool) (touches : Touches rows touched) (turn : Row) (is_turn : IsTurn touched done turn)
    (before tag : ℕ) (old new : ℕ → Bool) (of : IsRowOf rows turn before old new) (code : ℕ → ℕ)
    (used_then taken_then : ℕ → Bool) (then_words : Reading) (turned : Turned before tag old new code used taken d used_then taken_then then_words)
    (room : HasRoom tag) (after : Row → ℕ) (same_after : (row : Row) → row ≢ turn → IsRow rows.next row → after row ≡ rows.after row) (after_tag : after turn ≡ tag)
    (code_is : (class : ℕ) → new class ≡ true → code class ≡ code_of rows.next after turn class)
    (done_then : Row → Bool) (done_turn : done_then turn ≡ true) (done_same : (row : Row) → row ≢ turn → done_then row ≡ done row)
    (same : (row : Row) → (row ≡ turn) ⊎ (row ≢ turn)) where
  abbrev rows_then : Rows
  rows_then = record rows { after = after }

  has_of_freed : (row : Row) (class : ℕ) → row ≢ turn → HasNow rows done row class → turned.freed (tag_now rows done row - 1 + class) ≡ true
  has_of_freed row class differs has = freed_has rows done d used taken tabled m touched touches turn is_turn before tag old new of turned.freed turned.frees after same_after row class differs has

  given_of_row : (row : Row) (displacement : ℕ) → row ≢ turn → IsNow rows done row → tag_now rows done row ≡ suc displacement → turned.given displacement ≡ true
  given_of_row row displacement differs is e = given_has rows done d used taken tabled m touched touches turn is_turn before tag old new of turned.freed turned.frees after same_after
      turned.given turned.gives row displacement differs is e

  tag_of_own : IsRow rows.held turn → tag_now rows done turn ≡ before
  tag_of_own is = own_tag rows done d used taken tabled m touched touches turn is_turn before tag old new of turned.freed turned.frees after same_after is

  own_has : (class : ℕ) → old class ≡ true → new class ≡ true → HasNow rows done turn class
  own_has class o n = own_now rows done d used taken tabled m touched touches turn is_turn before tag old new of turned.freed turned.frees after same_after class o n

  own_both : (class : ℕ) → HasNow rows done turn class → (old class && new class) ≡ true
  own_both class has = own_parts rows done d used taken tabled m touched touches turn is_turn before tag old new of turned.freed turned.frees after same_after class has

  class_below : (class : ℕ) → new class ≡ true → class < 2048
  class_below class n = index_in_range rows.next turn.0 turn.1 class tabled (of.new_is class n)

  -- ---- rows after the turn

  turn_now : (class : ℕ) → new class ≡ true → HasNow rows_then done_then turn class
  turn_now class n = inl (done_turn, of.new_is class n)

  turn_tag : tag_now rows_then done_then turn ≡ tag
  turn_tag = tag_done rows_then done_then turn done_turn ∙ after_tag

  turn_new : (class : ℕ) → HasNow rows_then done_then turn class → new class ≡ true
  turn_new class has = of.new_has class (now_next rows_then done_then turn class has)

  other_now : (row : Row) (class : ℕ) → row ≢ turn → HasNow rows done row class → HasNow rows_then done_then row class
  other_now row class differs has = elim has [
    | inl a ↦ inl (done_same row differs ∙ a.0, a.1)
    | inr b ↦ inr (done_same row differs ∙ b.0, b.1, b.2)
  ]

  other_back : (row : Row) (class : ℕ) → row ≢ turn → HasNow rows_then done_then row class → HasNow rows done row class
  other_back row class differs has = elim has [
    | inl a ↦ inl (sym (done_same row differs) ∙ a.0, a.1)
    | inr b ↦ inr (sym (done_same row differs) ∙ b.0, b.1, b.2)
  ]

  row_now : (row : Row) → row ≢ turn → IsNow rows done row → IsNow rows_then done_then row
  row_now row differs is = elim is [
    | inl a ↦ inl (done_same row differs ∙ a.0, a.1)
    | inr b ↦ inr (done_same row differs ∙ b.0, b.1, b.2)
  ]

  row_back : (row : Row) → row ≢ turn → IsNow rows_then done_then row → IsNow rows done row
  row_back row differs is = elim is [
    | inl a ↦ inl (sym (done_same row differs) ∙ a.0, a.1)
    | inr b ↦ inr (sym (done_same row differs) ∙ b.0, b.1, b.2)
  ]

  other_tag : (row : Row) → row ≢ turn → IsRow rows.next row → tag_now rows_then done_then row ≡ tag_now rows done row
  other_tag row differs is = by_cases (done row)
      (λ t. tag_done rows_then done_then row (done_same row differs ∙ t) ∙ same_after row differs is ∙ sym (tag_done rows done row t))
      (λ f. tag_waits rows_then done_then row (done_same row differs ∙ f) ∙ sym (tag_waits rows done row f))

  -- a row that had its turn leads to rows that had theirs
  child_same : (s : ℕ) (p : List ℕ) (class : ℕ) → (s, p) ≢ turn → done (s, p) ≡ true → IsRow rows.next (s, p ++ (class ∷ [])) → after (s, p ++ (class ∷ [])) ≡ rows.after (s, p ++ (class ∷ []))
  child_same s p class differs over is = same_after (s, p ++ (class ∷ []))
      (λ child. by_cases (touched (s, p))
      (λ t. (let first : comes_before (s, p) turn ≡ true = sym (is_turn.order (s, p) t differs) ∙ over in
      let child_is : comes_before turn (s, p) ≡ true = subst (λ (r : Row). comes_before r (s, p) ≡ true) child (child_first s p class) in
      true≢false (sym child_is ∙ before_strict (s, p) turn first)))
      (λ f. true≢false (sym over ∙ is_turn.others (s, p) f)))
      is

  other_code : (row : Row) (class : ℕ) → row ≢ turn → HasNow rows done row class → code_now rows_then done_then row class ≡ code_now rows done row class
  other_code row class differs has =
      let v : Answer = rows.next (sent row.0 (row.1 ++ (class ∷ []))) in
      by_cases (done row)
      (λ t. if_true (done_then row) (code_of rows.next after row class) (code_of rows.held rows.before row class) (done_same row differs ∙ t)
      ∙ by_cases (is_understood v)
      (λ u. if_true (is_understood v) (code_of_answer v) (after (next_row row class)) u
      ∙ sym (if_true (is_understood v) (code_of_answer v) (rows.after (next_row row class)) u))
      (λ u. if_false (is_understood v) (code_of_answer v) (after (next_row row class)) u
      ∙ child_same row.0 row.1 class differs t (next_is_row rows.next row.0 row.1 class (now_next rows done row class has) u)
      ∙ sym (if_false (is_understood v) (code_of_answer v) (rows.after (next_row row class)) u))
      ∙ sym (if_true (done row) (code_of rows.next rows.after row class) (code_of rows.held rows.before row class) t))
      (λ f. if_false (done_then row) (code_of rows.next after row class) (code_of rows.held rows.before row class) (done_same row differs ∙ f)
      ∙ sym (if_false (done row) (code_of rows.next rows.after row class) (code_of rows.held rows.before row class) f))

  turn_code : (class : ℕ) → new class ≡ true → code_now rows_then done_then turn class ≡ code class
  turn_code class n = if_true (done_then turn) (code_of rows.next after turn class) (code_of rows.held rows.before turn class) done_turn ∙ sym (code_is class n)

  -- a row to which the row leads has its tag
  child_small : (class : ℕ) → IsRow rows.next (next_row turn class) → after (next_row turn class) < 4294967296
  child_small class is =
      let child : Row = next_row turn class in
      let first : comes_before child turn ≡ true = child_first turn.0 turn.1 class in
      let differs : child ≢ turn = (λ e. (let itself : comes_before turn turn ≡ true = subst (λ (r : Row). comes_before r turn ≡ true) e first in
      true≢false (sym itself ∙ before_strict turn turn itself))) in
      let here : IsNow rows done child = by_cases (touched child)
      (λ t. inl (is_turn.order child t differs ∙ first, is))
      (λ f. inr (is_turn.others child f, (is.0, touches.kept child is.0 f is.1), is)) in
      let within : tag_now rows done child - 1 < 67106816 = (m.room child here).within in
      let tags : after child ≡ tag_now rows done child = by_cases (touched child)
      (λ t. same_after child differs is ∙ sym (tag_done rows done child (is_turn.order child t differs ∙ first)))
      (λ f. same_after child differs is ∙ touches.tags child f is ∙ sym (tag_waits rows done child (is_turn.others child f))) in
      omega (arith, within, tags)

  code_small : (class : ℕ) → new class ≡ true → code class < 4294967296
  code_small class n =
      let v : Answer = rows.next (sent turn.0 (turn.1 ++ (class ∷ []))) in
      subst (λ c. c < 4294967296) (sym (code_is class n)) (by_cases (is_understood v)
      (λ t. subst (λ c. c < 4294967296) (sym (if_true (is_understood v) (code_of_answer v) (after (next_row turn class)) t))
      (small_answer v (tabled.body (sent turn.0 (turn.1 ++ (class ∷ []))))))
      (λ f. subst (λ c. c < 4294967296) (sym (if_false (is_understood v) (code_of_answer v) (after (next_row turn class)) f))
      (child_small class (next_is_row rows.next turn.0 turn.1 class (of.new_is class n) f))))

  -- ---- words

  turn_word : (class : ℕ) → new class ≡ true → then_words (cell_at tag class) ≡ tag * 4294967296 + code class
  turn_word class n = elim (turned.lays (cell_at tag class)) [
    | inl own ↦ (let at : 67108864 + (tag - 1 + own.0) ≡ 67108864 + (tag - 1 + class) = own.3 in
        let one : own.0 ≡ class = omega (arith, at) in
        own.4 ∙ ap (λ k. tag * 4294967296 + code k) one)
    | inr rest ↦ absurd (rest.0 class (class_below class n) n refl)
  ]

  turn_some : (class : ℕ) → new class ≡ true → then_words (cell_at tag class) ≢ 0
  turn_some class n z =
      let some : 0 < tag = room.some in
      let none : tag * 4294967296 + code class ≡ 0 = sym (turn_word class n) ∙ z in
      omega (arith, some, none)

  -- no cell of the row after its turn is one of another
  not_others : (k : ℕ) (row : Row) (class : ℕ) → new k ≡ true → row ≢ turn → HasNow rows done row class → cell_at tag k ≡ cell_at (tag_now rows done row) class → ⊥
  not_others k row class n differs has at =
      let cells : 67108864 + (tag - 1 + k) ≡ 67108864 + (tag_now rows done row - 1 + class) = at in
      let cell : tag - 1 + k ≡ tag_now rows done row - 1 + class = omega (arith, cells) in
      true≢false (sym (has_of_freed row class differs has) ∙ ap turned.freed (sym cell) ∙ chosen_fits turned.freed turned.given new before tag turned.chosen k n)

  -- nor is one of before
  not_before : (k : ℕ) (row : Row) (class : ℕ) → (old k && new k) ≡ true → row ≢ turn → HasNow rows done row class → cell_at before k ≡ cell_at (tag_now rows done row) class → ⊥
  not_before k row class both differs has at =
      let parts = and_parts (old k) (new k) both in
      let tags : tag_now rows done turn ≡ before = tag_of_own (row_of rows.held turn k (of.old_is k parts.0)) in
      differs (sym (now_one rows done d used taken tabled m turn row k class (own_has k parts.0 parts.1) has (ap (λ t. cell_at t k) tags ∙ at)))

  other_word : (row : Row) (class : ℕ) → row ≢ turn → HasNow rows done row class → then_words (cell_at (tag_now rows done row) class) ≡ d (cell_at (tag_now rows done row) class)
  other_word row class differs has = elim (turned.lays (cell_at (tag_now rows done row) class)) [
    | inl own ↦ absurd (not_others own.0 row class own.2 differs has own.3)
    | inr rest ↦ rest.1 ∙ elim (turned.clears (cell_at (tag_now rows done row) class)) [
      | inl own ↦ absurd (not_before own.0 row class (and_parts (old own.0 && new own.0) (not (tag == before)) own.2).0 differs has own.3)
      | inr stays ↦ stays.1
    ]
  ]

  -- a word is that of a row after the turn
  rest_then : (address : ℕ) → owns address ≡ true → then_words address ≢ 0
      → (row : Row) × (class : ℕ) × HasNow rows_then done_then row class × (cell_at (tag_now rows_then done_then row) class ≡ address)
  rest_then address own some = elim (turned.lays address) [
    | inl laid ↦ (turn, laid.0, turn_now laid.0 laid.2, ap (λ t. cell_at t laid.0) turn_tag ∙ laid.3)
    | inr rest ↦ elim (turned.clears address) [
      | inl gone ↦ absurd (some (rest.1 ∙ gone.4))
      | inr stays ↦ (let n = m.rest address own (λ z. some (rest.1 ∙ stays.1 ∙ z)) in
          elim (same n.0) [
            | inl e ↦ (let has : HasNow rows done turn n.1 = subst (λ (r : Row). HasNow rows done r n.1) e n.2 in
                let both : (old n.1 && new n.1) ≡ true = own_both n.1 has in
                let parts = and_parts (old n.1) (new n.1) both in
                let at : cell_at before n.1 ≡ address = ap (λ t. cell_at t n.1) (sym (tag_of_own (row_of rows.held turn n.1 (of.old_is n.1 parts.0)))) ∙ subst (λ (r : Row). cell_at (tag_now rows done r) n.1 ≡ address) e n.3 in
                absurd (by_cases (tag == before)
                (λ t. rest.0 n.1 (class_below n.1 parts.1) parts.1 (ap (λ u. cell_at u n.1) (eqb-true tag before t) ∙ at))
                (λ f. stays.0 n.1 (class_below n.1 parts.1) (and_from (old n.1 && new n.1) (not (tag == before)) both (not_from_false (tag == before) f)) at)))
            | inr differs ↦ (
              n.0,
              n.1,
              other_now n.0 n.1 differs n.2,
              ap (λ t. cell_at t n.1) (other_tag n.0 differs (row_of rows.next n.0 n.1 (now_next rows done n.0 n.1 n.2))) ∙ n.3,
            )
          ])
    ]
  ]

  -- ---- used cells

  used_if_word : (cell : ℕ) → owns (67108864 + cell) ≡ true → then_words (67108864 + cell) ≢ 0 → used_then cell ≡ true
  used_if_word cell own some =
      let n = rest_then (67108864 + cell) own some in
      elim (turned.takes cell) [
        | inl taken ↦ taken.4
        | inr rest ↦ elim (same n.0) [
          | inl e ↦ (let has : HasNow rows_then done_then turn n.1 = subst (λ (r : Row). HasNow rows_then done_then r n.1) e n.2 in
              let at : 67108864 + (tag_now rows_then done_then turn - 1 + n.1) ≡ 67108864 + cell = subst (λ (r : Row). cell_at (tag_now rows_then done_then r) n.1 ≡ 67108864 + cell) e n.3 in
              let tags : tag_now rows_then done_then turn ≡ tag = turn_tag in
              absurd (rest.0 n.1 (class_below n.1 (turn_new n.1 has)) (turn_new n.1 has) (omega (arith, at, tags))))
          | inr differs ↦ (let has : HasNow rows done n.0 n.1 = other_back n.0 n.1 differs n.2 in
              let tags : tag_now rows_then done_then n.0 ≡ tag_now rows done n.0 = other_tag n.0 differs (row_of rows.next n.0 n.1 (now_next rows done n.0 n.1 has)) in
              let at : 67108864 + (tag_now rows_then done_then n.0 - 1 + n.1) ≡ 67108864 + cell = n.3 in
              let one : tag_now rows done n.0 - 1 + n.1 ≡ cell = omega (arith, at, tags) in
              rest.1 ∙ ap turned.freed (sym one) ∙ has_of_freed n.0 n.1 differs has)
        ]
      ]

  word_if_used : (cell : ℕ) → used_then cell ≡ true → (owns (67108864 + cell) && not (then_words (67108864 + cell) == 0)) ≡ true
  word_if_used cell e = elim (turned.takes cell) [
    | inl taken ↦ (let at : tag - 1 + taken.0 ≡ cell = taken.3 in
        subst (λ c. (owns (67108864 + c) && not (then_words (67108864 + c) == 0)) ≡ true) at
        (and_from (owns (cell_at tag taken.0)) (not (then_words (cell_at tag taken.0) == 0)) (owned_cell tag taken.0 room taken.1)
        (not_from_false (then_words (cell_at tag taken.0) == 0) (nonzero (then_words (cell_at tag taken.0)) (turn_some taken.0 taken.2)))))
    | inr rest ↦ (let o = freed_other rows done d used taken tabled m touched touches turn is_turn before tag old new of turned.freed turned.frees after same_after cell (sym rest.1 ∙ e) in
        subst (λ a. (owns a && not (then_words a == 0)) ≡ true) o.4
        (and_from (owns (cell_at (tag_now rows done o.0) o.1)) (not (then_words (cell_at (tag_now rows done o.0) o.1) == 0)) (now_owned rows done d used taken tabled m o.0 o.1 o.2)
        (not_from_false (then_words (cell_at (tag_now rows done o.0) o.1) == 0)
        (nonzero (then_words (cell_at (tag_now rows done o.0) o.1)) (λ z. now_some rows done d used taken tabled m o.0 o.1 o.2 (sym (other_word o.0 o.1 o.3 o.2) ∙ z))))))
  ]
    where
      nonzero : (n : ℕ) → n ≢ 0 → (n == 0) ≡ false
      nonzero n h = by_cases (n == 0) (λ t. absurd (h (eqb-true n 0 t))) (λ f. f)

  -- ---- displacements

  turn_apart : (other : Row) → other ≢ turn → IsNow rows done other → tag_now rows done other ≡ tag → ⊥
  turn_apart other differs is e = elim turned.chosen [
    | inl stays ↦ (let own : IsRow rows.held turn = of.was stays.0 in
        differs (m.apart other turn is (inr (is_turn.waits, own, of.is)) (e ∙ stays.2 ∙ sym (tag_of_own own))))
    | inr moves ↦ (let some : 0 < tag = room.some in
        let next : tag ≡ suc (tag - 1) = omega (arith, some) in
        true≢false (sym (given_of_row other (tag - 1) differs is (e ∙ next)) ∙ moves.1.alone))
  ]

  -- ---- the rows after the turn

  pub after_turn : Midway rows_then done_then then_words used_then taken_then
  after_turn = record {
    room = λ row is. elim (same row) [
      | inl e ↦ subst (λ (r : Row). HasRoom (tag_now rows_then done_then r)) (sym e) (subst HasRoom (sym turn_tag) room)
      | inr differs ↦ (let here = row_back row differs is in subst HasRoom (sym (other_tag row differs (is_next rows done row here))) (m.room row here))
    ];
    apart = λ row other is has e. elim (same row) [
      | inl a ↦ elim (same other) [
        | inl b ↦ a ∙ sym b
        | inr differs ↦ (let here = row_back other differs has in
            let tags : tag_now rows_then done_then row ≡ tag = ap (tag_now rows_then done_then) a ∙ turn_tag in
            absurd (turn_apart other differs here (sym (other_tag other differs (is_next rows done other here)) ∙ sym e ∙ tags)))
      ]
      | inr differs ↦ (let here = row_back row differs is in
          let tag_row = other_tag row differs (is_next rows done row here) in
          elim (same other) [
            | inl b ↦ (let tags : tag_now rows_then done_then other ≡ tag = ap (tag_now rows_then done_then) b ∙ turn_tag in
                absurd (turn_apart row differs here (sym tag_row ∙ e ∙ tags)))
            | inr apart ↦ (let there = row_back other apart has in
                m.apart row other here there (sym tag_row ∙ e ∙ other_tag other apart (is_next rows done other there)))
          ])
    ];
    small = λ row class has. elim (same row) [
      | inl e ↦ (let n : new class ≡ true = turn_new class (subst (λ (r : Row). HasNow rows_then done_then r class) e has) in
          subst (λ (r : Row). code_now rows_then done_then r class < 4294967296) (sym e) (subst (λ c. c < 4294967296) (sym (turn_code class n)) (code_small class n)))
      | inr differs ↦ (let here = other_back row class differs has in subst (λ c. c < 4294967296) (sym (other_code row class differs here)) (m.small row class here))
    ];
    set = λ row class has. elim (same row) [
      | inl e ↦ (let n : new class ≡ true = turn_new class (subst (λ (r : Row). HasNow rows_then done_then r class) e has) in
          subst (λ (r : Row). then_words (cell_at (tag_now rows_then done_then r) class) ≡ tag_now rows_then done_then r * 4294967296 + code_now rows_then done_then r class) (sym e)
          (ap (λ t. then_words (cell_at t class)) turn_tag ∙ turn_word class n
          ∙ ap (λ c. tag * 4294967296 + c) (sym (turn_code class n))
          ∙ ap (λ t. t * 4294967296 + code_now rows_then done_then turn class) (sym turn_tag)))
      | inr differs ↦ (let here = other_back row class differs has in
          let tags = other_tag row differs (row_of rows.next row class (now_next rows done row class here)) in
          ap (λ t. then_words (cell_at t class)) tags ∙ other_word row class differs here ∙ m.set row class here
          ∙ ap (λ c. tag_now rows done row * 4294967296 + c) (sym (other_code row class differs here))
          ∙ ap (λ t. t * 4294967296 + code_now rows_then done_then row class) (sym tags))
    ];
    rest = rest_then;
    used_are = λ cell. same_bools (used_then cell) (owns (67108864 + cell) && not (then_words (67108864 + cell) == 0)) (word_if_used cell)
        (λ e. (let parts = and_parts (owns (67108864 + cell)) (not (then_words (67108864 + cell) == 0)) e in
        used_if_word cell parts.0 (λ z. true≢false (sym parts.1 ∙ ap not (eq-eqb (then_words (67108864 + cell)) 0 z)))));
    taken_by = λ row is displacement e. turned.has displacement ∙ elim (same row) [
      | inl a ↦ (let tags : tag_now rows_then done_then row ≡ tag = ap (tag_now rows_then done_then) a ∙ turn_tag in
          or_left (suc displacement == tag) (turned.given displacement) (eq-eqb (suc displacement) tag (sym e ∙ tags)))
      | inr differs ↦ (let here = row_back row differs is in
          or_right (suc displacement == tag) (turned.given displacement)
          (given_of_row row displacement differs here (sym (other_tag row differs (is_next rows done row here)) ∙ e)))
    ];
    taken_of = λ displacement e. elim (or_true (suc displacement == tag) (turned.given displacement) (sym (turned.has displacement) ∙ e)) [
      | inl t ↦ (turn, inl (done_turn, of.is), turn_tag ∙ sym (eqb-true (suc displacement) tag t))
      | inr g ↦ (let o = given_of rows done d used taken tabled m touched touches turn is_turn before tag old new of turned.freed turned.frees after same_after turned.given turned.gives displacement g in
          (o.0, row_now o.0 o.2 o.1, other_tag o.0 o.2 (is_next rows done o.0 o.1) ∙ o.3))
    ];
  }

  pub turn_is_placed : IsPlaced rows_then turn tag
  turn_is_placed = placed_if_chosen rows done d used taken tabled m touched touches turn is_turn before tag old new of turned.freed turned.frees after same_after turned.given turned.gives turned.chosen
