-- After the turns of all rows that a batch touches the rule of placing holds of every row.
use Rattle.std.proofs.Common.{◌≡◌, ℕ, ◌+◌, ◌*◌, Bool, true, false, List, inl, inr, refl, sym, ap, subst, ◌∙◌}
use Rattle.std.proofs.lemmas.Bool.{true≢false}
use Rattle.dt_pages.specs.Reading.{Reading}
use Rattle.dt_scratch.specs.declared.reply.Change.{Change}
use Rattle.dt_cells.specs.Regions.{place_of}
use Rattle.dt_cells.specs.Held.{Held, Row, held_after, is_changed}
use Rattle.dt_cells.specs.HeldLaws.{by_cases, if_true, if_false}
use Rattle.dt_mrd.specs.Rows.{HasIndex, IsRow}
use Rattle.dt_mrd.specs.Reading.{cell_at, tag_read}
use Rattle.dt_mrd.specs.ReadingLaws.{row_of}
use Rattle.dt_mrd.specs.Placing.{IsTabled, HasRoom, Shows, Rows, Fits, IsPlaced, HasPlaceWord, rows_of, code_of, Places}
use Rattle.dt_mrd.specs.MrdLaws.{small_code}
use Rattle.dt_mrd.specs.Midway.{HasNow, IsNow, tag_now, code_now, Midway, Touches}
use Rattle.dt_mrd.proofs.Midway.{not_itself, now_next, tag_done, tag_waits, word_tag, now_one}

module _ (x : Reading) (held : Held) (changes : List Change) (sh : Shows x held) (tabled : IsTabled (held_after held changes)) (after : Row → ℕ)
    (touched done : Row → Bool) (touches : Touches (rows_of x held changes after) touched) (d : Reading) (used taken : ℕ → Bool)
    (m : Midway (rows_of x held changes after) done d used taken)
    (all : (row : Row) → touched row ≡ true → IsRow (held_after held changes) row → done row ≡ true)
    (rest : (row : Row) → touched row ≡ false → done row ≡ false)
    (placed : (row : Row) → touched row ≡ true → IsRow (held_after held changes) row → IsPlaced (rows_of x held changes after) row (after row))
    (of_changed : (row : Row) → touched row ≡ true → is_changed changes row.0 ≡ true)
    (roots : (s : ℕ) → is_changed changes s ≡ true → HasPlaceWord (held_after held changes) after s (d (place_of s))) where
  abbrev rows : Rows
  rows = rows_of x held changes after

  abbrev next : Held
  next = held_after held changes

  has_now : (row : Row) (class : ℕ) → HasIndex next row class → HasNow rows done row class
  has_now row class has = by_cases (touched row)
      (λ t. inl (all row t (row_of next row class has), has))
      (λ f. inr (rest row f, touches.kept row class f has, has))

  is_now : (row : Row) → IsRow next row → IsNow rows done row
  is_now row is = by_cases (touched row)
      (λ t. inl (all row t is, is))
      (λ f. inr (rest row f, (is.0, touches.kept row is.0 f is.1), is))

  tag_is : (row : Row) → IsRow next row → tag_now rows done row ≡ after row
  tag_is row is = by_cases (touched row)
      (λ t. tag_done rows done row (all row t is))
      (λ f. tag_waits rows done row (rest row f) ∙ sym (touches.tags row f is))

  code_is : (row : Row) (class : ℕ) → HasIndex next row class → code_now rows done row class ≡ code_of next after row class
  code_is row class has = by_cases (touched row)
      (λ t. if_true (done row) (code_of next after row class) (code_of held (tag_read x) row class) (all row t (row_of next row class has)))
      (λ f. if_false (done row) (code_of next after row class) (code_of held (tag_read x) row class) (rest row f) ∙ touches.codes row class f has)

  -- a row that no change touches fits where it is
  untouched_fits : (row : Row) → touched row ≡ false → IsRow next row → Fits rows row (tag_read x row)
  untouched_fits row f is = λ class has by.
      elim by.3 [
        | inl over ↦ (let r : Row = by.0 in
            let first : tag_now rows done r ≡ by.1 = tag_is r (row_of next r by.2 over.1) ∙ over.2 in
            let second : tag_now rows done row ≡ tag_read x row = tag_is row is ∙ touches.tags row f is in
            let cells : cell_at (tag_now rows done r) by.2 ≡ cell_at (tag_now rows done row) class
            = ap (λ t. cell_at t by.2) first ∙ by.4 ∙ ap (λ t. cell_at t class) (sym second) in
            not_itself r row over.0 (now_one rows done d used taken tabled m r row by.2 class (has_now r by.2 over.1) (has_now row class has) cells))
        | inr waits ↦ (let r : Row = by.0 in
            let was : HasIndex held row class = touches.kept row class f has in
            let cells : cell_at (tag_read x r) by.2 ≡ cell_at (tag_read x row) class = ap (λ t. cell_at t by.2) waits.3 ∙ by.4 in
            let tags : tag_read x r ≡ tag_read x row = word_tag (tag_read x r) (tag_read x row) (code_of held (tag_read x) r by.2) (code_of held (tag_read x) row class)
            (small_code (tag_read x) held sh.tabled sh.room r.0 r.1 by.2 waits.1) (small_code (tag_read x) held sh.tabled sh.room row.0 row.1 class was)
            (sym (sh.cells.set r by.2 waits.1) ∙ ap x cells ∙ sh.cells.set row class was) in
            not_itself row r waits.0 (sym (sh.apart r row (row_of held r by.2 waits.1) (row_of held row class was) tags)))
      ]

  pub all_placed : Places x held changes d
  all_placed = record {
    tabled = tabled;
    tags = after;
    turns = λ row t is. by_cases (touched row)
        (λ u. placed row u is)
        (λ f. inl (((is.0, touches.kept row is.0 f is.1), untouched_fits row f is), touches.tags row f is));
    others = λ row f is. by_cases (touched row)
        (λ u. absurd (true≢false (sym (of_changed row u) ∙ f)))
        (λ g. touches.tags row g is);
    room = λ row is. subst HasRoom (tag_is row is) (m.room row (is_now row is));
    apart = λ row other is has e. m.apart row other (is_now row is) (is_now other has) (tag_is row is ∙ e ∙ sym (tag_is other has));
    roots = roots;
    cells = record {
      set = λ row class has. (let tags = tag_is row (row_of next row class has) in
          ap (λ t. d (cell_at t class)) (sym tags) ∙ m.set row class (has_now row class has)
          ∙ ap (λ t. t * 4294967296 + code_now rows done row class) tags
          ∙ ap (λ c. after row * 4294967296 + c) (code_is row class has));
      used = λ address own some. (let n = m.rest address own some in
          let has = now_next rows done n.0 n.1 n.2 in
          (n.0, n.1, has, ap (λ t. cell_at t n.1) (sym (tag_is n.0 (row_of next n.0 n.1 has))) ∙ n.3));
    };
  }

  pub all_placed_tags : (row : Row) → all_placed.tags row ≡ after row
  unfolding all_placed
  all_placed_tags row = refl
