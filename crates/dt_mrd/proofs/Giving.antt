-- Rows that are kept elsewhere, or beside which others are given up, are kept still.
use Rattle.std.proofs.Common.{◌≡◌, ℕ, ◌==◌, suc, true, if◌then◌else◌, List, [], ◌∷◌, ◌++◌, Option, None, Some, is_some, Contains, inl, inr, sym, ap, subst, ◌∙◌, arith}
use Rattle.std.proofs.lemmas.Bool.{eqb-true, true≢false}
use Rattle.std.proofs.lemmas.List.{append_assoc, append-nil}
use Rattle.dt_cells.specs.Held.{Held, Row}
use Rattle.dt_cells.specs.HeldLaws.{by_cases, or_true, if_false}
use Rattle.dt_mrd.specs.declared.kept_row.KeptRow.{KeptRow}
use Rattle.dt_mrd.specs.Rows.{IsRow}
use Rattle.dt_mrd.specs.MrdLaws.{row_prefix}
use Rattle.dt_mrd.specs.Kept.{row_at, next_in, key_of_next, key_along, key_of, AreKept}
use Rattle.dt_mrd.specs.Laying.{is_among}
use Rattle.dt_mrd.specs.Levels.{Extends}
use Rattle.dt_mrd.proofs.KeptTrees.{key_next}

module _ (roots : List (Option ℕ)) (rows rows_then : ℕ → Option KeptRow) (free free_then : List ℕ) (tags : Row → ℕ) (held : Held) (are : AreKept roots rows free tags held)
    (same : (row : Row) (key : ℕ) → IsRow held row → key_of roots rows row ≡ Some key → rows_then key ≡ rows key)
    (none : (row : Row) (key : ℕ) → IsRow held row → key_of roots rows row ≡ Some key → Contains free_then key → ⊥) where
  same_at : (row : Row) → IsRow held row → row_at rows_then (key_of roots rows row) ≡ row_at rows (key_of roots rows row)
  same_at row is = let k = are.row row is in ap (row_at rows_then) k.2 ∙ same row k.0 is k.2 ∙ sym (ap (row_at rows) k.2)

  along : (s : ℕ) (q p : List ℕ) → IsRow held (s, p ++ q) → key_along rows_then (key_of roots rows (s, p)) q ≡ key_of roots rows (s, p ++ q)
  along s [] p is = ap (λ (l : List ℕ). key_of roots rows (s, l)) (sym (append-nil p))
  along s (c ∷ cs) p is =
      ap (λ r. key_along rows_then (key_of_next (next_in r c)) cs) (same_at (s, p) (row_prefix held s p (c ∷ cs) is))
      ∙ ap (λ k. key_along rows_then k cs) (sym (key_next roots rows (s, p) c))
      ∙ along s cs (p ++ (c ∷ [])) (subst (λ (l : List ℕ). IsRow held (s, l)) (sym (append_assoc p (c ∷ []) cs)) is)
      ∙ ap (λ (l : List ℕ). key_of roots rows (s, l)) (append_assoc p (c ∷ []) cs)

  key_stays : (row : Row) → IsRow held row → key_of roots rows_then row ≡ key_of roots rows row
  key_stays row is = along row.0 row.1 [] is

  -- what is kept under the keys of rows is kept still
  pub kept_where_same : AreKept roots rows_then free_then tags held
  kept_where_same = record {
    roots_are = are.roots_are;
    row = λ row is. (let k = are.row row is in (k.0, k.1, key_stays row is ∙ k.2, same row k.0 is k.2 ∙ k.3, k.4));
    not_free = λ row key is e. none row key is (sym (key_stays row is) ∙ e);
  }

-- ---- where keys are given up

pub among_contains : (keys : List ℕ) (key : ℕ) → is_among keys key ≡ true → Contains keys key
among_contains [] key e = absurd (true≢false (sym e))
among_contains (k ∷ ks) key e = elim (or_true (k == key) (is_among ks key) e) [
  | inl here ↦ (0, omega arith, eqb-true k key here)
  | inr later ↦ (let r = among_contains ks key later in (suc r.0, omega (arith, r.1), r.2))
]

pub kept_if_given : (roots : List (Option ℕ)) (rows rows_then : ℕ → Option KeptRow) (free : List ℕ) (tags : Row → ℕ) (held : Held) → AreKept roots rows free tags held
    → ((key : ℕ) → rows_then key ≡ (if is_among free key then None else rows key)) → AreKept roots rows_then [] tags held
kept_if_given roots rows rows_then free tags held are given =
    kept_where_same roots rows rows_then free [] tags held are
    (λ row key is e. given key ∙ if_false (is_among free key) None (rows key)
    (by_cases (is_among free key) (λ t. absurd (are.not_free row key is e (among_contains free key t))) (λ f. f)))
    (λ row key is e there. absurd (omega (arith, there.1)))

-- where rows are laid under keys that had nothing
pub kept_if_extended : (roots : List (Option ℕ)) (rows rows_then : ℕ → Option KeptRow) (fresh fresh_then : List ℕ) (tags : Row → ℕ) (held : Held) → AreKept roots rows fresh tags held
    → Extends rows fresh rows_then fresh_then → AreKept roots rows_then fresh_then tags held
kept_if_extended roots rows rows_then fresh fresh_then tags held are more =
    kept_where_same roots rows rows_then fresh fresh_then tags held are
    (λ row key is e. more.kept key (some row key is e))
    (λ row key is e there. elim (more.added key there) [
      | inl before ↦ are.not_free row key is e before
      | inr vacant ↦ true≢false (sym (some row key is e) ∙ ap is_some vacant)
    ])
  where
    some : (row : Row) (key : ℕ) → IsRow held row → key_of roots rows row ≡ Some key → is_some (rows key) ≡ true
    some row key is e = (let k = are.row row is in
        let same : Some k.0 ≡ Some key = sym k.2 ∙ e in
        let one : k.0 ≡ key = cc in
        ap (λ n. is_some (rows n)) (sym one) ∙ ap is_some k.3)

-- where only rows under free keys change
pub kept_if_beside : (roots : List (Option ℕ)) (rows rows_then : ℕ → Option KeptRow) (fresh : List ℕ) (tags : Row → ℕ) (held : Held) → AreKept roots rows fresh tags held
    → ((key : ℕ) → (Contains fresh key → ⊥) → rows_then key ≡ rows key) → AreKept roots rows_then fresh tags held
kept_if_beside roots rows rows_then fresh tags held are beside =
    kept_where_same roots rows rows_then fresh fresh tags held are (λ row key is e. beside key (are.not_free row key is e)) are.not_free
