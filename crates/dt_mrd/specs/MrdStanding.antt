-- What it is for a value to stand for a reading.
use Rattle.std.proofs.Common.{◌≡◌, ◌==◌, ℕ, ◌+◌, ◌<◌, Bool, true, false, not, List, ◌∷◌, Option, None, is_some, inl, inr, sym, ap, ◌∙◌, get_or}
use Rattle.std.specs.Prelude.{nat_lt, ◌&&◌}
use Rattle.std.proofs.lemmas.Bool.{true≢false, and_parts, and_from}
use Rattle.slab.specs.Slab.{get}
use Rattle.dt_pages.specs.Reading.{Reading}
use Rattle.dt_cells.specs.Held.{Held, Row}
use Rattle.dt_cells.specs.HeldLaws.{by_cases}
use Rattle.dt_cells.specs.Kind.{SameFor}
use Rattle.dt_cells.specs.Standing.{IsStanding}
use Rattle.dt_fit.specs.Cells.{is_kept}
use Rattle.dt_placing.specs.PlacingLaws.{lt_test, lt_tested}
use Rattle.dt_mrd.specs.declared.kept_row.KeptRow.{KeptRow}
use Rattle.dt_mrd.specs.Rows.{sent, root, IsRow}
use Rattle.dt_mrd.specs.Reading.{owns, tag_read}
use Rattle.dt_mrd.specs.Placing.{mrd}
use Rattle.dt_mrd.specs.MrdLaws.{mrd_is_lawful, tag_elsewhere}
use Rattle.dt_mrd.specs.Kept.{IsKept, AreKept, AreUsed, AreTaken, has_place, Stands}
use Rattle.dt_mrd.specs.declared.kept_rows.KeptRows.{KeptRows}

pub used_elsewhere : (used : ℕ → Bool) (x y : Reading) → ((address : ℕ) → owns address ≡ true → x address ≡ y address) → AreUsed used x → AreUsed used y
used_elsewhere used x y same are cell = are cell ∙ by_cases (owns (67108864 + cell))
    (λ t. ap (λ w. owns (67108864 + cell) && not (w == 0)) (same (67108864 + cell) t))
    (λ f. ap (λ b. b && not (x (67108864 + cell) == 0)) f ∙ sym (ap (λ b. b && not (y (67108864 + cell) == 0)) f))

kept_elsewhere : (tags others : Row → ℕ) (held : Held) (row : Row) (kept : KeptRow) → tags row ≡ others row → IsKept tags held row kept → IsKept others held row kept
kept_elsewhere tags others held row kept same is = record {
  tag = is.tag ∙ same;
  indexes = is.indexes;
  used = is.used;
  answers = is.answers;
}

pub rows_elsewhere : (roots : List (Option ℕ)) (rows : ℕ → Option KeptRow) (free : List ℕ) (tags others : Row → ℕ) (held : Held)
    → ((row : Row) → IsRow held row → tags row ≡ others row) → AreKept roots rows free tags held → AreKept roots rows free others held
rows_elsewhere roots rows free tags others held same are = record {
  roots_are = are.roots_are;
  row = λ row is. (let k = are.row row is in (k.0, k.1, k.2, k.3, kept_elsewhere tags others held row k.1 (same row is) k.4));
  not_free = are.not_free;
}

pub taken_elsewhere : (taken : ℕ → Bool) (tags others : Row → ℕ) (held : Held) → ((row : Row) → IsRow held row → tags row ≡ others row)
    → AreTaken taken tags held → AreTaken taken others held
taken_elsewhere taken tags others held same are = record {
  of_rows = λ row is displacement e. are.of_rows row is displacement (same row is ∙ e);
  no_other = λ displacement e. (let r = are.no_other displacement e in (r.0, r.1, sym (same r.0 r.1) ∙ r.2));
}

stands_elsewhere : (kept : KeptRows) (x y : Reading) (held : Held) → Stands kept x held → SameFor mrd held x y → Stands kept y held
stands_elsewhere kept x y held st same = record {
  shows = mrd_is_lawful.shown_elsewhere x y held st.shows same;
  some = st.some;
  least = st.least;
  rows = rows_elsewhere kept.roots.items (get kept.rows) kept.fresh.items (tag_read x) (tag_read y) held (tag_elsewhere x y held same) st.rows;
  displacements = st.displacements;
  count = st.count;
  cells = used_elsewhere (is_kept kept.cells) x y same.owned st.cells;
  taken = taken_elsewhere (is_kept kept.taken) (tag_read x) (tag_read y) held (tag_elsewhere x y held same) st.taken;
}

placed_told : (kept : KeptRows) (x : Reading) (held : Held) (s : ℕ) → Stands kept x held → has_place kept s ≡ true → IsRow held (root s)
placed_told kept x held s st e =
    let parts = and_parts (nat_lt s 4096) (is_some (get_or kept.roots.items s None)) e in
    elim (st.rows.roots_are s (lt_tested s 4096 parts.0)) [
      | inl a ↦ a.0
      | inr a ↦ absurd (true≢false (sym parts.1 ∙ ap is_some a.1))
    ]

none_told : (kept : KeptRows) (x : Reading) (held : Held) (s : ℕ) → Stands kept x held → has_place kept s ≡ false → IsRow held (root s) → ⊥
none_told kept x held s st e is =
    let range : s < 4096 = (st.shows.tabled.range (sent s (is.0 ∷ is.1.0)) is.1.1).selector in
    elim (st.rows.roots_are s range) [
      | inl a ↦ true≢false (sym (and_from (nat_lt s 4096) (is_some (get_or kept.roots.items s None)) (lt_test s 4096 range) a.1) ∙ e)
      | inr a ↦ a.0 is
    ]

pub mrd_stands : (V : Type 0) (keeps : V → KeptRows)
    → IsStanding V mrd (λ value. (keeps value).least) (λ value selector. has_place (keeps value) selector) (λ value x held. Stands (keeps value) x held)
mrd_stands V keeps = record {
  shows = λ v x held st. st.shows;
  elsewhere = λ v x y held st same. stands_elsewhere (keeps v) x y held st same;
  least = λ v x held st. st.some;
  in_arities = λ v x held q st h. (st.least q h, st.shows.tabled.few q h);
  tells = λ v x held s st e. placed_told (keeps v) x held s st e;
  tells_none = λ v x held s st e. none_told (keeps v) x held s st e;
}
