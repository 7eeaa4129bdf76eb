-- The rows of turns that are in the order of placing, and those of the first so many.
use Rattle.std.proofs.Common.{◌≡◌, ◌≢◌, ◌==◌, ℕ, zero, suc, ◌+◌, ◌<◌, Bool, true, false, ◌||◌, List, [], ◌∷◌, take, get_or, length, ◌⊎◌, inl, inr, refl, sym, ap, subst, ◌∙◌, arith}
use Rattle.std.specs.Prelude.{nat_eq, nat_lt}
use Rattle.std.specs.Cmp.Lexicographic.{same_text}
use Rattle.std.proofs.lemmas.Bool.{and_parts, and_from, or_left, or_right, eqb-true, eq-eqb, true≢false}
use Rattle.std.proofs.lemmas.List.Folds.{list_any_more}
use Rattle.std.proofs.lemmas.List.Elements.{All-get_or}
use lib.Pointwise.{pointwise}
use Rattle.dt_cells.specs.Held.{Row}
use Rattle.dt_cells.specs.HeldLaws.{by_cases, or_true}
use Rattle.dt_placing.specs.PlacingLaws.{lt_tested}
use Rattle.dt_mrd.specs.declared.turn.Turn.{Turn}
use Rattle.dt_mrd.specs.Rows.{comes_before}
use Rattle.dt_mrd.specs.Midway.{IsTurn}
use Rattle.dt_mrd.specs.Turns.{row_of_turn, is_same_row, has_turn, AreInOrder}
use Rattle.dt_mrd.proofs.Order.{before_strict}
use Rattle.dt_mrd.proofs.Midway.{not_itself}

-- ---- equal rows

same_itself : (l : List ℕ) → pointwise nat_eq l l ≡ true
same_itself [] = refl
same_itself (c ∷ cs) = and_from (nat_eq c c) (pointwise nat_eq cs cs) (eq-eqb c c refl) (same_itself cs)

pub row_same : (row other : Row) → is_same_row row other ≡ true → row ≡ other
row_same row other e =
    let parts = and_parts (row.0 == other.0) (pointwise nat_eq row.1 other.1) e in
    let first : row.0 ≡ other.0 = eqb-true row.0 other.0 parts.0 in
    let second : row.1 ≡ other.1 = same_text row.1 other.1 (sym parts.1) in
    λ i. (first i, second i)

pub same_row : (row other : Row) → row ≡ other → is_same_row row other ≡ true
same_row row other e = subst (λ (r : Row). is_same_row row r ≡ true) e
    (and_from (row.0 == row.0) (pointwise nat_eq row.1 row.1) (eq-eqb row.0 row.0 refl) (same_itself row.1))

pub same_or_not : (turn row : Row) → (row ≡ turn) ⊎ (row ≢ turn)
same_or_not turn row = by_cases (is_same_row row turn)
    (λ t. inl (row_same row turn t))
    (λ f. inr (λ e. true≢false (sym (same_row row turn e) ∙ f)))

-- ---- the rows of turns

-- the turn at an index is of the row
pub record IsAt (turns : List Turn) (none : Turn) (row : Row) : Type 0 where
  pub index : ℕ
  pub within : index < length turns
  pub is : row_of_turn (get_or turns index none) ≡ row

pub turn_at : (turns : List Turn) (none : Turn) (row : Row) → has_turn turns row ≡ true → IsAt turns none row
turn_at [] none row e = absurd (true≢false (sym e))
turn_at (t ∷ ts) none row e = elim (or_true (is_same_row (row_of_turn t) row) (has_turn ts row) e) [
  | inl here ↦ record { index = 0; within = omega arith; is = row_same (row_of_turn t) row here }
  | inr later ↦ (let r = turn_at ts none row later in
      let below : r.index < length ts = r.within in
      record { index = suc r.index; within = omega (arith, below); is = r.is })
]

pub at_turn : (turns : List Turn) (none : Turn) (row : Row) → IsAt turns none row → has_turn turns row ≡ true
at_turn [] none row at = absurd (let below : at.index < 0 = at.within in omega (arith, below))
at_turn (t ∷ ts) none row at = by_index (at_turn ts none row) at.index at.within at.is
  where
    by_index : (IsAt ts none row → has_turn ts row ≡ true) → (k : ℕ) → k < suc (length ts) → row_of_turn (get_or (t ∷ ts) k none) ≡ row → has_turn (t ∷ ts) row ≡ true
    by_index rest zero below is = or_left (is_same_row (row_of_turn t) row) (has_turn ts row) (same_row (row_of_turn t) row is)
    by_index rest (suc k) below is = or_right (is_same_row (row_of_turn t) row) (has_turn ts row)
        (rest (record { index = k; within = omega (arith, below); is = is }))

-- a turn of the list is of a row that has one
pub turn_of : (turns : List Turn) (i : ℕ) (none : Turn) → i < length turns → has_turn turns (row_of_turn (get_or turns i none)) ≡ true
turn_of turns i none below = at_turn turns none (row_of_turn (get_or turns i none)) (record { index = i; within = below; is = refl })

-- ---- the first so many turns

pub turn_more : (turns : List Turn) (i : ℕ) (none : Turn) (row : Row) → i < length turns
    → has_turn (take (i + 1) turns) row ≡ (has_turn (take i turns) row || is_same_row (row_of_turn (get_or turns i none)) row)
turn_more turns i none row below = list_any_more (λ turn. is_same_row (row_of_turn turn) row) turns i none below

pub turn_later : (turns : List Turn) (i : ℕ) (row : Row) → has_turn (take i turns) row ≡ true → has_turn turns row ≡ true
turn_later turns zero row e = absurd (true≢false (sym e))
turn_later [] (suc i) row e = absurd (true≢false (sym e))
turn_later (t ∷ ts) (suc i) row e = elim (or_true (is_same_row (row_of_turn t) row) (has_turn (take i ts) row) e) [
  | inl here ↦ or_left (is_same_row (row_of_turn t) row) (has_turn ts row) here
  | inr later ↦ or_right (is_same_row (row_of_turn t) row) (has_turn ts row) (turn_later ts i row later)
]

-- a row that has one of the first so many turns has it before
pub early_at : (turns : List Turn) (i : ℕ) (none : Turn) (row : Row) → has_turn (take i turns) row ≡ true
    → (k : ℕ) × (k < i) × (k < length turns) × (row_of_turn (get_or turns k none) ≡ row)
early_at turns zero none row e = absurd (true≢false (sym e))
early_at [] (suc i) none row e = absurd (true≢false (sym e))
early_at (t ∷ ts) (suc i) none row e = elim (or_true (is_same_row (row_of_turn t) row) (has_turn (take i ts) row) e) [
  | inl here ↦ (0, omega arith, omega arith, row_same (row_of_turn t) row here)
  | inr later ↦ (let r = early_at ts i none row later in (suc r.0, omega (arith, r.1), omega (arith, r.2), r.3))
]

pub at_early : (turns : List Turn) (i : ℕ) (none : Turn) (row : Row) (k : ℕ) → k < i → k < length turns → row_of_turn (get_or turns k none) ≡ row
    → has_turn (take i turns) row ≡ true
at_early turns zero none row k less below is = absurd (omega (arith, less))
at_early [] (suc i) none row k less below is = absurd (omega (arith, below))
at_early (t ∷ ts) (suc i) none row zero less below is = or_left (is_same_row (row_of_turn t) row) (has_turn (take i ts) row) (same_row (row_of_turn t) row is)
at_early (t ∷ ts) (suc i) none row (suc k) less below is = or_right (is_same_row (row_of_turn t) row) (has_turn (take i ts) row)
    (at_early ts i none row k (omega (arith, less)) (omega (arith, below)) is)

-- ---- the order

in_order : (turns : List Turn) (none : Turn) → AreInOrder turns → (i j : ℕ) → i < j → j < length turns
    → comes_before (row_of_turn (get_or turns i none)) (row_of_turn (get_or turns j none)) ≡ true
in_order [] none order i j less below = absurd (omega (arith, below))
in_order (t ∷ ts) none order i zero less below = absurd (omega (arith, less))
in_order (t ∷ ts) none order zero (suc j) less below =
    All-get_or (λ later. comes_before (row_of_turn t) (row_of_turn later) ≡ true) ts j none (omega (arith, below)) order.0
in_order (t ∷ ts) none order (suc i) (suc j) less below = in_order ts none order.1 i j (omega (arith, less)) (omega (arith, below))

module _ (turns : List Turn) (i : ℕ) (none : Turn) (order : AreInOrder turns) (below : i < length turns) where
  abbrev turn : Row
  turn = row_of_turn (get_or turns i none)

  -- the turn at an index is that of a row that isn't among the earlier ones
  waits : (b : Bool) → has_turn (take i turns) turn ≡ b → b ≡ false
  waits false e = refl
  waits true e = (let r = early_at turns i none turn e in
      absurd (not_itself (row_of_turn (get_or turns r.0 none)) turn (in_order turns none order r.0 i r.1 below) r.3))

  before : (row : Row) → has_turn turns row ≡ true → row ≢ turn → (b : Bool) → comes_before row turn ≡ b → has_turn (take i turns) row ≡ b
  before row touched differs b e =
      let at = turn_at turns none row touched in
      by_cases (nat_lt at.index i)
      (λ t. (let less : at.index < i = lt_tested at.index i t in
      let first : comes_before row turn ≡ true = subst (λ (r : Row). comes_before r turn ≡ true) at.is (in_order turns none order at.index i less below) in
      at_early turns i none row at.index less at.within at.is ∙ sym first ∙ e))
      (λ f. by_cases (nat_lt i at.index)
      (λ u. (let more : i < at.index = lt_tested i at.index u in
      let later : comes_before turn row ≡ true = subst (λ (r : Row). comes_before turn r ≡ true) at.is (in_order turns none order i at.index more at.within) in
      none_early row later (has_turn (take i turns) row) refl ∙ sym (before_strict turn row later) ∙ e))
      (λ g. (let same : at.index ≡ i = one at.index f g in
      absurd (differs (sym at.is ∙ ap (λ k. row_of_turn (get_or turns k none)) same)))))
    where
      one : (k : ℕ) → nat_lt k i ≡ false → nat_lt i k ≡ false → k ≡ i
      one k f g = grind arith

      none_early : (row : Row) → comes_before turn row ≡ true → (b : Bool) → has_turn (take i turns) row ≡ b → has_turn (take i turns) row ≡ false
      none_early row later false e = e
      none_early row later true e = (let r = early_at turns i none row e in
          let first : comes_before row turn ≡ true = subst (λ (q : Row). comes_before q turn ≡ true) r.3 (in_order turns none order r.0 i r.1 below) in
          absurd (true≢false (sym first ∙ before_strict turn row later)))

  others : (row : Row) → has_turn turns row ≡ false → has_turn (take i turns) row ≡ false
  others row f = by_cases (has_turn (take i turns) row) (λ t. absurd (true≢false (sym (turn_later turns i row t) ∙ f))) (λ g. g)

  pub is_turn : IsTurn (has_turn turns) (has_turn (take i turns)) turn
  is_turn = record {
    waits = waits (has_turn (take i turns) turn) refl;
    order = λ row touched differs. before row touched differs (comes_before row turn) refl;
    others = others;
  }

  -- with one more it is over, and nothing else changes
  pub turn_over : has_turn (take (i + 1) turns) turn ≡ true
  turn_over = turn_more turns i none turn below ∙ or_right (has_turn (take i turns) turn) (is_same_row turn turn) (same_row turn turn refl)

  pub others_over : (row : Row) → row ≢ turn → has_turn (take (i + 1) turns) row ≡ has_turn (take i turns) row
  others_over row differs = turn_more turns i none row below ∙ by_cases (is_same_row turn row)
      (λ t. absurd (differs (sym (row_same turn row t))))
      (λ f. ap (λ b. has_turn (take i turns) row || b) f ∙ or_false (has_turn (take i turns) row))
    where
      or_false : (b : Bool) → (b || false) ≡ b
      or_false true = refl
      or_false false = refl
