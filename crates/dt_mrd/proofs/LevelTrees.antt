-- Rows that are kept under their keys, row by row and all together.
use Rattle.std.proofs.Common.{◌≡◌, ℕ, ◌<◌, true, List, [], ◌∷◌, ◌++◌, get_or, Option, Some, None, is_some, inl, inr, refl, sym, ap, subst, ◌∙◌}
use Rattle.std.proofs.lemmas.Bool.{true≢false}
use Rattle.dt_cells.specs.Held.{Held, Row}
use Rattle.dt_cells.specs.HeldLaws.{by_cases}
use Rattle.dt_placing.specs.Rows.{is_understood}
use Rattle.dt_placing.specs.RowsLaws.{not_understood}
use Rattle.dt_mrd.specs.declared.kept_row.KeptRow.{KeptRow}
use Rattle.dt_mrd.specs.declared.kept_row.Next.{Next}
use Rattle.dt_mrd.specs.declared.kept_row.Next.TheVariants.{Answer as LeadsToAnswer, Row as LeadsToRow}
use Rattle.dt_mrd.specs.Rows.{sent, HasIndex, IsRow}
use Rattle.dt_mrd.specs.Placing.{IsTabled, code_of_answer}
use Rattle.dt_mrd.specs.Kept.{row_at, next_in, key_of_next, key_along, key_of, IsKept, AreKept}
use Rattle.dt_mrd.specs.Changing.{is_answer}
use Rattle.dt_mrd.specs.ReadingLaws.{index_before, next_is_row}
use Rattle.dt_mrd.specs.Levels.{KeptAt, Extends}
use Rattle.dt_mrd.proofs.KeptTrees.{key_next, row_or_none}
use Rattle.dt_mrd.proofs.LevelCell.{answer_at, LeadsOn, IsCell}
use Rattle.dt_mrd.proofs.LevelRow.{IsAt}
use Rattle.dt_mrd.proofs.LevelOver.{key_kept}
use Rattle.dt_mrd.proofs.LevelSelectors.{at_none}

some_none : {T : Type 0} (o : Option T) (value : T) → o ≡ Some value → o ≡ None → ⊥
some_none o value e none = true≢false (sym (ap is_some e) ∙ ap is_some none)

-- ---- from all together

abbrev code_part : Option Next → ℕ
code_part (Some (LeadsToAnswer code)) = code
code_part _ = 0

module _ (roots : List (Option ℕ)) (rows : KeptAt) (free : List ℕ) (tags : Row → ℕ) (held : Held) (tabled : IsTabled held) (are : AreKept roots rows free tags held) where
  cell_of : (s : ℕ) (p : List ℕ) (is : IsRow held (s, p)) (class : ℕ) (cell : Option Next) → next_in (Some (are.row (s, p) is).1) class ≡ cell → IsCell held s p class cell
  cell_of s p is class None e = (
    by_cases (is_understood (answer_at held s p class))
        (λ t. absurd (some_none (next_in (Some (are.row (s, p) is).1) class) (LeadsToAnswer (code_of_answer (answer_at held s p class))) ((are.row (s, p) is).4.answers class t) e))
        (λ f. f),
    λ on. true≢false (sym ((are.row (s, p) is).4.indexes class (index_before held s p class on)) ∙ ap is_some e),
  )
  cell_of s p is class (Some (LeadsToAnswer code)) e = by_cases (is_understood (answer_at held s p class))
      (λ t. (t, ap code_part (sym e ∙ (are.row (s, p) is).4.answers class t)))
      (λ f. (let k = are.row (s, p) is in
      let on : LeadsOn held s p class = next_is_row held s p class (k.4.used class (ap is_some e)) f in
      let key : key_of roots rows (s, p ++ (class ∷ [])) ≡ None = key_next roots rows (s, p) class
      ∙ ap (λ (key : Option ℕ). key_of_next (next_in (row_at rows key) class)) k.2 ∙ ap (λ (r : Option KeptRow). key_of_next (next_in r class)) k.3 ∙ ap key_of_next e in
      let next = are.row (s, p ++ (class ∷ [])) on in
      absurd (some_none (key_of roots rows (s, p ++ (class ∷ []))) next.0 next.2 key)))
  cell_of s p is class (Some (LeadsToRow key)) e = by_cases (is_understood (answer_at held s p class))
      (λ t. absurd (true≢false (sym (ap is_answer (sym e ∙ (are.row (s, p) is).4.answers class t)))))
      (λ f. (f, next_is_row held s p class ((are.row (s, p) is).4.used class (ap is_some e)) f))

  row_stands : (s : ℕ) (p : List ℕ) → IsRow held (s, p) → IsAt rows (key_of roots rows (s, p)) held s p
  row_stands s p is =
      let k = are.row (s, p) is in
      record {
        cells = λ class. cell_of s p is class (next_in (row_at rows (key_of roots rows (s, p))) class)
            (sym (ap (λ (key : Option ℕ). next_in (row_at rows key) class) k.2 ∙ ap (λ (r : Option KeptRow). next_in r class) k.3));
        there = λ n e. (is, ap (λ (key : Option ℕ). is_some (row_at rows key)) (sym e ∙ k.2) ∙ ap is_some k.3);
        none = λ e row. some_none (key_of roots rows (s, p)) k.0 k.2 e;
      }

  pub kept_at : (s : ℕ) → s < 4096 → (p : List ℕ) → IsAt rows (key_along rows (get_or roots s None) p) held s p
  kept_at s below p = elim (row_or_none roots rows free tags held tabled are (s, p) below) [
    | inl is ↦ row_stands s p is
    | inr none ↦ subst (λ (key : Option ℕ). IsAt rows key held s p) (sym none)
        (at_none rows held s p (λ is. (let k = are.row (s, p) is in some_none (key_of roots rows (s, p)) k.0 k.2 none)))
  ]

-- nothing that was kept is another, and what is free had nothing: the rows are kept so still
pub kept_still : (roots : List (Option ℕ)) (rows rows_then : KeptAt) (fresh fresh_then : List ℕ) (tags : Row → ℕ) (held : Held) → IsTabled held → AreKept roots rows fresh tags held
    → Extends rows fresh rows_then fresh_then → AreKept roots rows_then fresh_then tags held
kept_still roots rows rows_then fresh fresh_then tags held tabled are extends = record {
  roots_are = are.roots_are;
  row = λ row is. (let k = are.row row is in (k.0, k.1, before row is ∙ k.2, extends.kept k.0 (ap is_some k.3) ∙ k.3, k.4));
  not_free = λ row key is e free. (let k = are.row row is in
      let at : key_of roots rows row ≡ Some key = sym (before row is) ∙ e in
      let there : is_some (rows key) ≡ true = ap (λ (n : Option ℕ). is_some (row_at rows n)) (sym at ∙ k.2) ∙ ap is_some k.3 in
      elim (extends.added key free) [
        | inl was ↦ are.not_free row key is at was
        | inr vacant ↦ true≢false (sym there ∙ ap is_some vacant)
      ]);
}
  where
    before : (row : Row) → IsRow held row → key_of roots rows_then row ≡ key_of roots rows row
    before row is =
        let below : row.0 < 4096 = (tabled.range (sent row.0 (row.1 ++ (is.0 ∷ is.1.0))) is.1.1).selector in
        key_kept held held tabled tabled row.0 rows (get_or roots row.0 None) (kept_at roots rows fresh tags held tabled are row.0 below) rows_then extends.kept row.1 []

-- ---- to all together

-- a row is kept under a key, whose cells are those of what is held
pub record Stands (rows : KeptAt) (key : Option ℕ) (held : Held) (s : ℕ) (p : List ℕ) : Type 0 where
  pub at_key : ℕ
  pub row : KeptRow
  pub key_is : key ≡ Some at_key
  pub row_is : rows at_key ≡ Some row
  pub cells : (class : ℕ) → IsCell held s p class (next_in (Some row) class)

pub stands_at : (rows : KeptAt) (key : Option ℕ) (held : Held) (s : ℕ) (p : List ℕ) → IsAt rows key held s p → IsRow held (s, p) → Stands rows key held s p
stands_at rows None held s p at is = absurd (at.none refl is)
stands_at rows (Some key) held s p at is = by_row (rows key) refl
  where
    by_row : (row : Option KeptRow) → rows key ≡ row → Stands rows (Some key) held s p
    by_row None e = absurd (true≢false (sym (at.there key refl).1 ∙ ap is_some e))
    by_row (Some row) e = record {
      at_key = key;
      row = row;
      key_is = refl;
      row_is = e;
      cells = λ class. subst (λ (r : Option KeptRow). IsCell held s p class (next_in r class)) e (at.cells class);
    }

cell_indexes : (held : Held) (s : ℕ) (p : List ℕ) (class : ℕ) (cell : Option Next) → IsCell held s p class cell → HasIndex held (s, p) class → is_some cell ≡ true
cell_indexes held s p class None is has = absurd (is.1 (next_is_row held s p class has is.0))
cell_indexes held s p class (Some next) is has = refl

cell_used : (held : Held) (s : ℕ) (p : List ℕ) (class : ℕ) (cell : Option Next) → IsCell held s p class cell → is_some cell ≡ true → HasIndex held (s, p) class
cell_used held s p class None is some = absurd (true≢false (sym some))
cell_used held s p class (Some (LeadsToAnswer code)) is some = ([], not_understood (answer_at held s p class) is.0)
cell_used held s p class (Some (LeadsToRow key)) is some = index_before held s p class is.1

cell_answers : (held : Held) (s : ℕ) (p : List ℕ) (class : ℕ) (cell : Option Next) → IsCell held s p class cell → is_understood (answer_at held s p class) ≡ true
    → cell ≡ Some (LeadsToAnswer (code_of_answer (answer_at held s p class)))
cell_answers held s p class None is t = absurd (true≢false (sym t ∙ is.0))
cell_answers held s p class (Some (LeadsToAnswer code)) is t = ap (λ c. Some (LeadsToAnswer c)) is.1
cell_answers held s p class (Some (LeadsToRow key)) is t = absurd (true≢false (sym t ∙ is.0))

pub is_kept : (tags : Row → ℕ) (held : Held) (s : ℕ) (p : List ℕ) (row : KeptRow) → row.tag ≡ tags (s, p) → ((class : ℕ) → IsCell held s p class (next_in (Some row) class)) → IsKept tags held (s, p) row
is_kept tags held s p row tag cells = record {
  tag = tag;
  indexes = λ class has. cell_indexes held s p class (next_in (Some row) class) (cells class) has;
  used = λ class some. cell_used held s p class (next_in (Some row) class) (cells class) some;
  answers = λ class t. cell_answers held s p class (next_in (Some row) class) (cells class) t;
}
