-- A row that is none after has no turn: nothing changes where its turn is over.
use Rattle.std.proofs.Common.{◌≡◌, ◌≢◌, ℕ, ◌+◌, ◌*◌, ◌<◌, Bool, inl, inr, sym, ap, subst, ◌∙◌, if◌then◌else◌}
use Rattle.dt_pages.specs.Reading.{Reading}
use Rattle.dt_cells.specs.Held.{Row}
use Rattle.dt_mrd.specs.Rows.{IsRow}
use Rattle.dt_mrd.specs.Reading.{cell_at}
use Rattle.dt_mrd.specs.ReadingLaws.{row_of}
use Rattle.dt_mrd.specs.Placing.{HasRoom, Rows, code_of}
use Rattle.dt_mrd.specs.Midway.{HasNow, IsNow, tag_now, code_now, Midway}
use Rattle.dt_mrd.proofs.Midway.{is_next, now_next}

module _ (rows : Rows) (done : Row → Bool) (d : Reading) (used taken : ℕ → Bool) (m : Midway rows done d used taken)
    (turn : Row) (none : IsRow rows.next turn → ⊥) (done_then : Row → Bool) (done_same : (row : Row) → row ≢ turn → done_then row ≡ done row) where
  differs : (row : Row) → IsRow rows.next row → row ≢ turn
  differs row is same = none (subst (IsRow rows.next) same is)

  back : (row : Row) (class : ℕ) → HasNow rows done_then row class → HasNow rows done row class
  back row class has =
      let same = done_same row (differs row (row_of rows.next row class (now_next rows done_then row class has))) in
      elim has [ inl a ↦ inl (sym same ∙ a.0, a.1) | inr b ↦ inr (sym same ∙ b.0, b.1, b.2) ]

  forth : (row : Row) (class : ℕ) → HasNow rows done row class → HasNow rows done_then row class
  forth row class has =
      let same = done_same row (differs row (row_of rows.next row class (now_next rows done row class has))) in
      elim has [ inl a ↦ inl (same ∙ a.0, a.1) | inr b ↦ inr (same ∙ b.0, b.1, b.2) ]

  row_back : (row : Row) → IsNow rows done_then row → IsNow rows done row
  row_back row is =
      let same = done_same row (differs row (is_next rows done_then row is)) in
      elim is [ inl a ↦ inl (sym same ∙ a.0, a.1) | inr b ↦ inr (sym same ∙ b.0, b.1, b.2) ]

  row_forth : (row : Row) → IsNow rows done row → IsNow rows done_then row
  row_forth row is =
      let same = done_same row (differs row (is_next rows done row is)) in
      elim is [ inl a ↦ inl (same ∙ a.0, a.1) | inr b ↦ inr (same ∙ b.0, b.1, b.2) ]

  tags : (row : Row) → IsRow rows.next row → tag_now rows done_then row ≡ tag_now rows done row
  tags row is = ap (λ b. if b then rows.after row else rows.before row) (done_same row (differs row is))

  codes : (row : Row) (class : ℕ) → IsRow rows.next row → code_now rows done_then row class ≡ code_now rows done row class
  codes row class is = ap (λ b. if b then code_of rows.next rows.after row class else code_of rows.held rows.before row class) (done_same row (differs row is))

  pub skipped : Midway rows done_then d used taken
  skipped = record {
    room = λ row is. subst HasRoom (sym (tags row (is_next rows done_then row is))) (m.room row (row_back row is));
    apart = λ row other is has e. m.apart row other (row_back row is) (row_back other has)
        (sym (tags row (is_next rows done_then row is)) ∙ e ∙ tags other (is_next rows done_then other has));
    small = λ row class has. (let is = row_of rows.next row class (now_next rows done_then row class has) in
        subst (λ c. c < 4294967296) (sym (codes row class is)) (m.small row class (back row class has)));
    set = λ row class has. (let is = row_of rows.next row class (now_next rows done_then row class has) in
        ap (λ t. d (cell_at t class)) (tags row is) ∙ m.set row class (back row class has)
        ∙ ap (λ c. tag_now rows done row * 4294967296 + c) (sym (codes row class is))
        ∙ ap (λ t. t * 4294967296 + code_now rows done_then row class) (sym (tags row is)));
    rest = λ address own some. (let n = m.rest address own some in
        (n.0, n.1, forth n.0 n.1 n.2, ap (λ t. cell_at t n.1) (tags n.0 (row_of rows.next n.0 n.1 (now_next rows done n.0 n.1 n.2))) ∙ n.3));
    used_are = m.used_are;
    taken_by = λ row is displacement e. m.taken_by row (row_back row is) displacement (sym (tags row (is_next rows done_then row is)) ∙ e);
    taken_of = λ displacement e. (let n = m.taken_of displacement e in (n.0, row_forth n.0 n.1, tags n.0 (is_next rows done n.0 n.1) ∙ n.2));
  }
