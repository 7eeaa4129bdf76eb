-- Which cells are used by others when the turn of a selector comes, said of what is held: those of a selector whose turn is
-- over lie at its new place, those of one that waits at its old one.
use Rattle.std.proofs.Common.{◌≡◌, ◌≢◌, ◌==◌, ◌⊎◌, inl, inr, ℕ, zero, suc, ◌-◌, ◌<◌, Bool, true, false, if◌then◌else◌, List, [], ◌∷◌, sym, ap, ◌∙◌, arith, refl}
use Rattle.std.specs.Prelude.{nat_lt}
use Rattle.std.specs.List.{list_any}
use Rattle.std.proofs.lemmas.Bool.{eqb-true, eq-eqb, true≢false, or_left, or_right}
use Rattle.std.proofs.lemmas.List.Folds.{list_any-append}
use Rattle.dt_pages.specs.Reading.{Reading}
use Rattle.dt_scratch.specs.declared.reply.Change.{Change}
use Rattle.dt_cells.specs.Regions.{place_of, class_numbers, selector_numbers}
use Rattle.dt_cells.specs.Held.{Held, IsHeld, held_after}
use Rattle.dt_cells.specs.HeldLaws.{by_cases, or_true, if_true, if_false}
use Rattle.dt_fit.specs.declared.geometry.Geometry.{Geometry}
use Rattle.dt_fit.specs.Geometry as fit
use Rattle.dt_fit.specs.Rows.{PlacedRow, row_uses}
use Rattle.dt_placing.specs.Rows.{single, is_understood, indexes_below, indexes}
use Rattle.dt_placing.specs.RowsLaws.{understood, not_understood, one_of_others, other_of}
use Rattle.dt_placing.specs.Placing.{row_at, is_used}
use Rattle.dt_placing.specs.PlacingLaws.{lt_test, lt_tested}

-- the cell is that of a class that understands the selector, at the place of this word
pub record HasCellAt (geometry : Geometry) (held : Held) (selector word cell : ℕ) : Type 0 where
  pub class : ℕ
  pub below : class < class_numbers
  pub understands : IsHeld held (single selector class)
  pub is : fit.cell_at geometry (word - 1) class ≡ cell

-- another selector has the cell: by what is held after where its turn was earlier, else by what is held before
pub record IsOfAnother (geometry : Geometry) (x : Reading) (held : Held) (changes : List Change) (words : ℕ → ℕ) (turn cell : ℕ) : Type 0 where
  pub other : ℕ
  pub range : other < selector_numbers
  pub has : ((other < turn) × HasCellAt geometry (held_after held changes) other (words other) cell)
      ⊎ ((turn < other) × HasCellAt geometry held other (x (place_of other)) cell)

-- ---- indexes that pass a test

pub one_index : (f : ℕ → Bool) (held : Held) (s n : ℕ) → list_any f (indexes_below held s n) ≡ true
    → (class : ℕ) × (class < n) × IsHeld held (single s class) × (f class ≡ true)
unfolding indexes_below
one_index f held s zero e = absurd (true≢false (sym e))
one_index f held s (suc n) e =
    elim (or_true (list_any f (indexes_below held s n)) (list_any f (if is_understood (held (single s n)) then n ∷ [] else []))
    (sym (list_any-append f (indexes_below held s n) _) ∙ e)) [
      | inl t ↦ (let found = one_index f held s n t in (found.0, (omega (arith, found.1)), found.2, found.3))
      | inr t ↦ last (is_understood (held (single s n))) refl t
    ]
  where
    last : (v : Bool) → is_understood (held (single s n)) ≡ v → list_any f (if v then n ∷ [] else []) ≡ true
        → (class : ℕ) × (class < suc n) × IsHeld held (single s class) × (f class ≡ true)
    last true u t = elim (or_true (f n) false t) [
      | inl is ↦ (n, omega arith, not_understood (held (single s n)) u, is)
      | inr never ↦ absurd (true≢false (sym never))
    ]
    last false u t = absurd (true≢false (sym t))

pub some_index : (f : ℕ → Bool) (held : Held) (s n class : ℕ) → class < n → IsHeld held (single s class) → f class ≡ true
    → list_any f (indexes_below held s n) ≡ true
unfolding indexes_below
some_index f held s zero class below h is = absurd (omega arith)
some_index f held s (suc n) class below h is =
    list_any-append f (indexes_below held s n) (if is_understood (held (single s n)) then n ∷ [] else [])
    ∙ by_cases (class == n)
    (λ t. let same : class ≡ n = eqb-true class n t in
    or_right (list_any f (indexes_below held s n)) _
    (ap (list_any f) (if_true (is_understood (held (single s n))) (n ∷ []) [] (ap (λ c. is_understood (held (single s c))) (sym same) ∙ understood (held (single s class)) h))
    ∙ or_left (f n) false (ap f (sym same) ∙ is)))
    (λ g. let apart : class ≢ n = (λ e. true≢false (sym (eq-eqb class n e) ∙ g)) in
    or_left (list_any f (indexes_below held s n)) _ (some_index f held s n class (omega (arith, apart)) h is))

-- ---- the law

module _ (g : Geometry) (x : Reading) (held : Held) (changes : List Change) (words : ℕ → ℕ) (turn cell : ℕ) where
  abbrev uses : ℕ → ℕ → Bool
  uses place class = fit.cell_at g place class == cell

  later_row : (other : ℕ) → nat_lt other turn ≡ false → row_at x held changes words turn other ≡ record { place = x (place_of other) - 1; indexes = indexes held other }
  later_row other f = if_false (nat_lt other turn) (record { place = words other - 1; indexes = indexes (held_after held changes) other }) (record { place = x (place_of other) - 1; indexes = indexes held other }) f

  earlier_row : (other : ℕ) → nat_lt other turn ≡ true → row_at x held changes words turn other ≡ record { place = words other - 1; indexes = indexes (held_after held changes) other }
  earlier_row other t = if_true (nat_lt other turn) (record { place = words other - 1; indexes = indexes (held_after held changes) other }) (record { place = x (place_of other) - 1; indexes = indexes held other }) t

  at_row : (h : Held) (s word : ℕ) → row_uses g (record { place = word - 1; indexes = indexes h s }) cell ≡ true → HasCellAt g h s word cell
  at_row h s word e =
      let found = one_index (uses (word - 1)) h s 2048 e in
      record { class = found.0; below = found.1; understands = found.2; is = eqb-true _ cell found.3 }

  of_row : (h : Held) (s word : ℕ) → HasCellAt g h s word cell → row_uses g (record { place = word - 1; indexes = indexes h s }) cell ≡ true
  of_row h s word has = some_index (uses (word - 1)) h s 2048 has.class has.below has.understands (eq-eqb _ cell has.is)

  -- what is used is another's
  pub used_is_of_another : is_used g x held changes words turn cell ≡ true → IsOfAnother g x held changes words turn cell
  used_is_of_another e =
      let found = other_of (row_at x held changes words turn) (λ row. row_uses g row cell) turn 4096 e in
      record {
        other = found.0;
        range = found.1.0;
        has = by_cases (nat_lt found.0 turn)
            (λ t. inl (
              lt_tested found.0 turn t,
              at_row (held_after held changes) found.0 (words found.0)
                  (sym (ap (λ (r : PlacedRow). row_uses g r cell) (earlier_row found.0 t)) ∙ found.1.2),
            ))
            (λ f. inr (
              later found.0 f found.1.1,
              at_row held found.0 (x (place_of found.0))
                  (sym (ap (λ (r : PlacedRow). row_uses g r cell) (later_row found.0 f)) ∙ found.1.2),
            ));
      }
    where
      later : (other : ℕ) → nat_lt other turn ≡ false → other ≢ turn → turn < other
      later other f apart = let no : (other < turn → ⊥) = (λ h. true≢false (sym (lt_test other turn h) ∙ f)) in
          by_cases (nat_lt turn other) (λ t. lt_tested turn other t) (λ h. absurd (apart (grind arith)))

  -- and what is another's is used
  pub of_another_is_used : IsOfAnother g x held changes words turn cell → is_used g x held changes words turn cell ≡ true
  of_another_is_used is = elim is.has [
    | inl earlier ↦ one_of_others (row_at x held changes words turn) (λ row. row_uses g row cell) turn 4096 is.other is.range
        (λ e. omega (arith, e, earlier.0))
        (ap (λ (r : PlacedRow). row_uses g r cell) (earlier_row is.other (lt_test is.other turn earlier.0)) ∙ of_row (held_after held changes) is.other (words is.other) earlier.1)
    | inr later ↦ one_of_others (row_at x held changes words turn) (λ row. row_uses g row cell) turn 4096 is.other is.range
        (λ e. omega (arith, e, later.0))
        (ap (λ (r : PlacedRow). row_uses g r cell) (later_row is.other (not_lt is.other later.0)) ∙ of_row held is.other (x (place_of is.other)) later.1)
  ]
    where
      not_lt : (other : ℕ) → turn < other → nat_lt other turn ≡ false
      not_lt other h = by_cases (nat_lt other turn) (λ t. absurd (let less : other < turn = lt_tested other turn t in omega (arith, less, h))) (λ f. f)
