-- A row gets another tag: its cells stay, and so do all keys.
use Rattle.std.proofs.Common.{◌≡◌, ◌≢◌, ◌==◌, ℕ, List, [], ◌∷◌, get_or, Option, None, Some, Contains, ◌⊎◌, inl, inr, refl, sym, ap, ◌∙◌}
use Rattle.std.proofs.lemmas.Bool.{eqb-true, eq-eqb, true≢false}
use Rattle.std.proofs.lemmas.List.Elements.{All-weaker}
use Rattle.dt_pages.specs.Reading.{Reading}
use Rattle.dt_scratch.specs.declared.reply.Change.{Change}
use Rattle.dt_cells.specs.Held.{Held, Row, held_after}
use Rattle.dt_cells.specs.HeldLaws.{by_cases, if_true, if_false}
use Rattle.dt_mrd.specs.declared.kept_row.KeptRow.{KeptRow}
use Rattle.dt_mrd.specs.declared.turn.Turn.{Turn}
use Rattle.dt_mrd.specs.Reading.{tag_read}
use Rattle.dt_mrd.specs.Kept.{row_at, tag_in, next_in, key_of_next, key_along, key_of, AreKept}
use Rattle.dt_mrd.specs.Turns.{with_other_tag, with_tag, row_of_turn, tags_in, AreTurns}

-- ---- cells and keys

pub next_same : (rows : ℕ → Option KeptRow) (key tag other class : ℕ) → next_in (with_tag rows key tag other) class ≡ next_in (rows other) class
next_same rows key tag other class = by_cases (other == key)
    (λ t. ap (λ r. next_in r class) (if_true (other == key) (with_other_tag (rows key) tag) (rows other) t)
    ∙ cells (rows key) ∙ ap (λ k. next_in (rows k) class) (sym (eqb-true other key t)))
    (λ f. ap (λ r. next_in r class) (if_false (other == key) (with_other_tag (rows key) tag) (rows other) f))
  where
    cells : (r : Option KeptRow) → next_in (with_other_tag r tag) class ≡ next_in r class
    cells None = refl
    cells (Some row) = refl

pub next_at : (rows : ℕ → Option KeptRow) (key tag : ℕ) (at : Option ℕ) (class : ℕ) → next_in (row_at (with_tag rows key tag) at) class ≡ next_in (row_at rows at) class
next_at rows key tag None class = refl
next_at rows key tag (Some other) class = next_same rows key tag other class

along_same : (rows : ℕ → Option KeptRow) (key tag : ℕ) (at : Option ℕ) (classes : List ℕ) → key_along (with_tag rows key tag) at classes ≡ key_along rows at classes
along_same rows key tag at [] = refl
along_same rows key tag at (c ∷ cs) = along_same rows key tag (key_of_next (next_in (row_at (with_tag rows key tag) at) c)) cs
    ∙ ap (λ n. key_along rows (key_of_next n) cs) (next_at rows key tag at c)

pub key_same : (roots : List (Option ℕ)) (rows : ℕ → Option KeptRow) (key tag : ℕ) (row : Row) → key_of roots (with_tag rows key tag) row ≡ key_of roots rows row
key_same roots rows key tag row = along_same rows key tag (get_or roots row.0 None) row.1

-- ---- the row itself, and others

pub other_row : (rows : ℕ → Option KeptRow) (key tag other : ℕ) → other ≢ key → with_tag rows key tag other ≡ rows other
other_row rows key tag other differs = if_false (other == key) (with_other_tag (rows key) tag) (rows other)
    (by_cases (other == key) (λ t. absurd (differs (eqb-true other key t))) (λ f. f))

pub own_row : (rows : ℕ → Option KeptRow) (key tag : ℕ) (row : KeptRow) → rows key ≡ Some row → with_tag rows key tag key ≡ Some (record row { tag = tag })
own_row rows key tag row is = if_true (key == key) (with_other_tag (rows key) tag) (rows key) (eq-eqb key key refl) ∙ ap (λ r. with_other_tag r tag) is

-- ---- what is kept of rows

module _ (roots : List (Option ℕ)) (rows : ℕ → Option KeptRow) (key tag : ℕ) where
  -- where the key is none of a row all is kept
  pub kept_beside : (free : List ℕ) (tags : Row → ℕ) (held : Held) → Contains free key → AreKept roots rows free tags held → AreKept roots (with_tag rows key tag) free tags held
  kept_beside free tags held there are = record {
    roots_are = are.roots_are;
    row = λ row is. (let k = are.row row is in (
      k.0,
      k.1,
      key_same roots rows key tag row ∙ k.2,
      other_row rows key tag k.0 (λ e. are.not_free row key is (k.2 ∙ ap Some e) there) ∙ k.3,
      k.4,
    ));
    not_free = λ row other is e. are.not_free row other is (sym (key_same roots rows key tag row) ∙ e);
  }

  -- rows are kept with the tags that they have
  pub kept_anew : (held : Held) → AreKept roots rows [] (tags_in roots rows) held
      → AreKept roots (with_tag rows key tag) [] (tags_in roots (with_tag rows key tag)) held
  kept_anew held are = record {
    roots_are = are.roots_are;
    row = λ row is. (let k = are.row row is in
        let at : key_of roots (with_tag rows key tag) row ≡ Some k.0 = key_same roots rows key tag row ∙ k.2 in
        elim (found k.0 k.1 k.3) [
          | inl own ↦ (
            k.0,
            record k.1 { tag = tag },
            at,
            own,
            record {
              tag = sym (ap (λ o. tag_in (row_at (with_tag rows key tag) o)) at ∙ ap tag_in own);
              indexes = k.4.indexes;
              used = k.4.used;
              answers = k.4.answers;
            },
          )
          | inr other ↦ (
            k.0,
            k.1,
            at,
            other,
            record {
              tag = sym (ap (λ o. tag_in (row_at (with_tag rows key tag) o)) at ∙ ap tag_in other);
              indexes = k.4.indexes;
              used = k.4.used;
              answers = k.4.answers;
            },
          )
        ]);
    not_free = λ row other is e free. are.not_free row other is (sym (key_same roots rows key tag row) ∙ e) free;
  }
    where
      found : (at : ℕ) (kept : KeptRow) → rows at ≡ Some kept
          → (with_tag rows key tag at ≡ Some (record kept { tag = tag })) ⊎ (with_tag rows key tag at ≡ Some kept)
      found at kept is = by_cases (at == key)
          (λ t. inl (let same : at ≡ key = eqb-true at key t in
          ap (with_tag rows key tag) same ∙ own_row rows key tag kept (ap rows (sym same) ∙ is)))
          (λ f. inr (other_row rows key tag at (λ e. true≢false (sym (eq-eqb at key e) ∙ f)) ∙ is))

-- ---- turns

pub turns_after : (x : Reading) (held : Held) (changes : List Change) (roots roots_then : List (Option ℕ)) (rows : ℕ → Option KeptRow) (fresh : List ℕ) (turns : List Turn) (key tag : ℕ)
    → Contains fresh key → AreTurns x held changes roots roots_then rows fresh turns → AreTurns x held changes roots roots_then (with_tag rows key tag) fresh turns
turns_after x held changes roots roots_then rows fresh turns key tag there are = record {
  old_rows = kept_beside roots rows key tag fresh (tag_read x) held there are.old_rows;
  new_rows = kept_anew roots_then rows key tag (held_after held changes) are.new_rows;
  order = are.order;
  of_changes = are.of_changes;
  of_all = are.of_all;
  old_keys = All-weaker (λ (turn : Turn). turn.old ≡ key_of roots rows (row_of_turn turn)) (λ (turn : Turn). turn.old ≡ key_of roots (with_tag rows key tag) (row_of_turn turn))
      (λ turn e. e ∙ sym (key_same roots rows key tag (row_of_turn turn))) turns are.old_keys;
  new_keys = All-weaker (λ (turn : Turn). turn.new ≡ key_of roots_then rows (row_of_turn turn)) (λ (turn : Turn). turn.new ≡ key_of roots_then (with_tag rows key tag) (row_of_turn turn))
      (λ turn e. e ∙ sym (key_same roots_then rows key tag (row_of_turn turn))) turns are.new_keys;
  new_fresh = are.new_fresh;
  new_apart = are.new_apart;
  others = λ row f is. key_same roots_then rows key tag row ∙ are.others row f is ∙ sym (key_same roots rows key tag row);
}
