-- What is read from rows that are kept as a tree.
use Rattle.std.proofs.Common.{◌≡◌, ◌≢◌, ℕ, ◌-◌, ◌<◌, true, false, List, [], ◌∷◌, ◌++◌, get_or, Option, None, Some, is_some, ◌⊎◌, inl, inr, refl, sym, ap, subst, ◌∙◌, arith}
use Rattle.std.proofs.lemmas.Bool.{true≢false}
use Rattle.std.proofs.lemmas.List.{append_assoc, append-nil}
use Rattle.dt_cells.specs.Held.{Held, Row}
use Rattle.dt_cells.specs.HeldLaws.{by_cases, if_true, if_false}
use Rattle.dt_scratch.specs.declared.reply.Answer.{Answer}
use Rattle.dt_placing.specs.Rows.{is_understood}
use Rattle.dt_mrd.specs.declared.kept_row.KeptRow.{KeptRow}
use Rattle.dt_mrd.specs.declared.kept_row.Next.{Next}
use Rattle.dt_mrd.specs.declared.kept_row.Next.TheVariants.{Answer as LeadsToAnswer, Row as LeadsToRow}
use Rattle.dt_mrd.specs.Rows.{sent, next_row, HasIndex, IsRow}
use Rattle.dt_mrd.specs.ReadingLaws.{row_of, next_is_row, index_in_range}
use Rattle.dt_mrd.specs.Placing.{IsTabled, HasRoom, code_of_answer, code_of}
use Rattle.dt_mrd.specs.Kept.{row_at, tag_in, next_in, code_in, key_of_next, key_along, key_of, AreKept}
use Rattle.dt_mrd.specs.Laying.{has_cell, HasClasses}

none_if : {T : Type 0} (o : Option T) → is_some o ≡ false → o ≡ None
none_if None e = refl
none_if (Some t) e = absurd (true≢false e)

some_not_none : {T : Type 0} (o : Option T) → is_some o ≡ true → o ≡ None → ⊥
some_not_none o e n = true≢false (sym e ∙ ap is_some n)

-- a cell that leads to the row of a key
leads : (n : Option Next) (key : ℕ) → key_of_next n ≡ Some key → n ≡ Some (LeadsToRow key)
leads None key e = absurd (cc)
leads (Some (LeadsToAnswer code)) key e = absurd (cc)
leads (Some (LeadsToRow k)) key e = let same : k ≡ key = cc in ap (λ j. Some (LeadsToRow j)) same

along_snoc : (rows : ℕ → Option KeptRow) (key : Option ℕ) (classes : List ℕ) (class : ℕ)
    → key_along rows key (classes ++ (class ∷ [])) ≡ key_of_next (next_in (row_at rows (key_along rows key classes)) class)
along_snoc rows key [] class = refl
along_snoc rows key (c ∷ cs) class = along_snoc rows (key_of_next (next_in (row_at rows key) c)) cs class

-- the key of the row to which a class leads
pub key_next : (roots : List (Option ℕ)) (rows : ℕ → Option KeptRow) (row : Row) (class : ℕ)
    → key_of roots rows (next_row row class) ≡ key_of_next (next_in (row_at rows (key_of roots rows row)) class)
key_next roots rows row class = along_snoc rows (get_or roots row.0 None) row.1 class

module _ (roots : List (Option ℕ)) (rows : ℕ → Option KeptRow) (free : List ℕ) (tags : Row → ℕ) (held : Held) (tabled : IsTabled held) (are : AreKept roots rows free tags held) where
  row_is : (row : Row) (is : IsRow held row) → row_at rows (key_of roots rows row) ≡ Some (are.row row is).1
  row_is row is = let k = are.row row is in ap (row_at rows) k.2 ∙ k.3

  -- a class leads to a row, or to none
  step : (row : Row) (class : ℕ) → IsRow held row → IsRow held (next_row row class) ⊎ (key_of roots rows (next_row row class) ≡ None)
  step row class is =
      let k = are.row row is in
      let v : Answer = held (sent row.0 (row.1 ++ (class ∷ []))) in
      let key : key_of roots rows (next_row row class) ≡ key_of_next (next_in (Some k.1) class)
      = key_next roots rows row class ∙ ap (λ r. key_of_next (next_in r class)) (row_is row is) in
      by_cases (is_some (next_in (Some k.1) class))
      (λ t. by_cases (is_understood v)
      (λ u. inr (key ∙ ap key_of_next (k.4.answers class u)))
      (λ f. inl (next_is_row held row.0 row.1 class (k.4.used class t) f)))
      (λ f. inr (key ∙ ap key_of_next (none_if (next_in (Some k.1) class) f)))

  step_none : (row : Row) (class : ℕ) → key_of roots rows row ≡ None → key_of roots rows (next_row row class) ≡ None
  step_none row class e = key_next roots rows row class ∙ ap (λ k. key_of_next (next_in (row_at rows k) class)) e

  along : (s : ℕ) (q p : List ℕ) → IsRow held (s, p) ⊎ (key_of roots rows (s, p) ≡ None) → IsRow held (s, p ++ q) ⊎ (key_of roots rows (s, p ++ q) ≡ None)
  along s [] p at = subst (λ (l : List ℕ). IsRow held (s, l) ⊎ (key_of roots rows (s, l) ≡ None)) (sym (append-nil p)) at
  along s (c ∷ cs) p at =
      subst (λ (l : List ℕ). IsRow held (s, l) ⊎ (key_of roots rows (s, l) ≡ None)) (append_assoc p (c ∷ []) cs)
      (along s cs (p ++ (c ∷ [])) (elim at [ inl is ↦ step (s, p) c is | inr none ↦ inr (step_none (s, p) c none) ]))

  -- it is a row, or has no key
  pub row_or_none : (row : Row) → row.0 < 4096 → IsRow held row ⊎ (key_of roots rows row ≡ None)
  row_or_none row below = along row.0 row.1 [] (elim (are.roots_are row.0 below) [ inl a ↦ inl a.0 | inr b ↦ inr b.1 ])

  -- what has a key is a row
  pub key_row : (row : Row) → row.0 < 4096 → is_some (key_of roots rows row) ≡ true → IsRow held row
  key_row row below e = elim (row_or_none row below) [ inl is ↦ is | inr none ↦ absurd (some_not_none (key_of roots rows row) e none) ]

  pub row_has_key : (row : Row) → IsRow held row → is_some (key_of roots rows row) ≡ true
  row_has_key row is = ap is_some (are.row row is).2

  -- the cells of a row are those of its indexes
  pub has_cell_of : (row : Row) (class : ℕ) → HasIndex held row class → has_cell (row_at rows (key_of roots rows row)) class ≡ true
  has_cell_of row class has =
      let is : IsRow held row = row_of held row class has in
      ap (λ r. has_cell r class) (row_is row is) ∙ (are.row row is).4.indexes class has

  pub cell_index : (row : Row) (class : ℕ) → row.0 < 4096 → has_cell (row_at rows (key_of roots rows row)) class ≡ true → HasIndex held row class
  cell_index row class below e = elim (row_or_none row below) [
    | inl is ↦ (are.row row is).4.used class (sym (ap (λ r. has_cell r class) (row_is row is)) ∙ e)
    | inr none ↦ absurd (true≢false (sym e ∙ ap (λ k. has_cell (row_at rows k) class) none))
  ]

  pub classes_of_row : (row : Row) → row.0 < 4096 → HasClasses (row_at rows (key_of roots rows row))
  classes_of_row row below = λ class e. index_in_range held row.0 row.1 class tabled (cell_index row class below e)

  -- its tag
  pub tag_of_row : (row : Row) → IsRow held row → tag_in (row_at rows (key_of roots rows row)) ≡ tags row
  tag_of_row row is = ap tag_in (row_is row is) ∙ (are.row row is).4.tag

  pub tag_row : (row : Row) → row.0 < 4096 → tag_in (row_at rows (key_of roots rows row)) ≢ 0 → IsRow held row
  tag_row row below some = elim (row_or_none row below) [
    | inl is ↦ is
    | inr none ↦ absurd (some (ap (λ k. tag_in (row_at rows k)) none))
  ]

  pub tag_small : (row : Row) → row.0 < 4096 → ((r : Row) → IsRow held r → HasRoom (tags r)) → tag_in (row_at rows (key_of roots rows row)) - 1 < 67106816
  tag_small row below room = elim (row_or_none row below) [
    | inl is ↦ subst (λ t. t - 1 < 67106816) (sym (tag_of_row row is)) (room row is).within
    | inr none ↦ subst (λ t. t - 1 < 67106816) (sym (ap (λ k. tag_in (row_at rows k)) none)) (omega arith)
  ]

  -- and the codes of its cells
  pub code_of_cell : (row : Row) (class : ℕ) → HasIndex held row class
      → code_in rows (next_in (row_at rows (key_of roots rows row)) class) ≡ code_of held tags row class
  code_of_cell row class has =
      let is : IsRow held row = row_of held row class has in
      let k = are.row row is in
      let v : Answer = held (sent row.0 (row.1 ++ (class ∷ []))) in
      by_cases (is_understood v)
      (λ t. ap (λ r. code_in rows (next_in r class)) (row_is row is) ∙ ap (code_in rows) (k.4.answers class t)
      ∙ sym (if_true (is_understood v) (code_of_answer v) (tags (next_row row class)) t))
      (λ f. (let child : IsRow held (next_row row class) = next_is_row held row.0 row.1 class has f in
      let c = are.row (next_row row class) child in
      ap (code_in rows) (leads (next_in (row_at rows (key_of roots rows row)) class) c.0 (sym (key_next roots rows row class) ∙ c.2))
      ∙ ap tag_in c.3 ∙ c.4.tag
      ∙ sym (if_false (is_understood v) (code_of_answer v) (tags (next_row row class)) f)))
