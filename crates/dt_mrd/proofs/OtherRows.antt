-- The cells and displacements of other rows than the one whose turn it is are those of fewer rows than there may be.
use Rattle.std.proofs.Common.{◌≡◌, ◌≢◌, ◌==◌, ℕ, zero, suc, ◌+◌, ◌-◌, ◌*◌, ◌<◌, ◌≤◌, Bool, true, false, ◌&&◌, if◌then◌else◌, List, [], ◌∷◌, ◌++◌, take, length, All, Contains, inl, inr, refl, sym, ap, subst, ◌∙◌, arith}
use Rattle.std.specs.List.{list_any}
use Rattle.std.proofs.lemmas.Bool.{or_left, or_right, eq-eqb}
use Rattle.std.proofs.lemmas.List.Elements.{All-nil, All-cons, All-weaker, All-same}
use Rattle.std.proofs.Math.Seq.{take-append_seam}
use Rattle.std.proofs.lemmas.List.{length-append}
use Rattle.slab.proofs.SlabLemmas.{Contains-cons_cases}
use Rattle.dt_pages.specs.Reading.{Reading}
use Rattle.dt_cells.specs.Held.{Row, HasFewRows}
use Rattle.dt_cells.specs.HeldLaws.{by_cases, if_true, if_false}
use Rattle.dt_fit.specs.declared.geometry.Geometry.TheVariants.{Displacements}
use Rattle.dt_fit.specs.Rows.{PlacedRow, AreIndexes, row_uses}
use Rattle.dt_placing.specs.Turn.{Laid}
use Rattle.dt_mrd.specs.Rows.{sent, IsRow}
use Rattle.dt_mrd.specs.ReadingLaws.{row_of, index_in_range}
use Rattle.dt_mrd.specs.Placing.{IsTabled, Rows}
use Rattle.dt_mrd.specs.Midway.{tag_now, Midway, Touches, IsTurn, IsRowOf, HasOtherRows, given_up}
use Rattle.dt_mrd.specs.Turns.{is_same_row}
use Rattle.dt_mrd.proofs.Midway.{is_next, now_next, freed_other, given_of}
use Rattle.dt_mrd.proofs.TurnLists.{row_same}

classes_below : ℕ → List ℕ
classes_below zero = []
classes_below (suc n) = n ∷ classes_below n

all_below : (n : ℕ) → All (λ class. class < n) (classes_below n)
unfolding classes_below
all_below zero = All-nil (λ class. class < 0)
all_below (suc n) = All-cons (λ class. class < suc n) n (classes_below n) (omega arith)
    (All-weaker (λ class. class < n) (λ class. class < suc n) (λ class less. omega (arith, less)) (classes_below n) (all_below n))

is_below : (n class place cell : ℕ) → class < n → place + class ≡ cell → list_any (λ index. 1 * place + index == cell) (classes_below n) ≡ true
unfolding classes_below
is_below zero class place cell below at = absurd (omega (arith, below))
is_below (suc n) class place cell below at = by_cases (class == n)
    (λ t. or_left (1 * place + n == cell) _ (eq-eqb (1 * place + n) cell (here t)))
    (λ f. or_right (1 * place + n == cell) _ (is_below n class place cell (less f) at))
  where
    here : (class == n) ≡ true → 1 * place + n ≡ cell
    here t = grind arith

    less : (class == n) ≡ false → class < n
    less f = grind arith

module _ (rows : Rows) (done : Row → Bool) (turn : Row) where
  -- a row of all indexes at the place of another
  abbrev placed : Row → PlacedRow
  placed row = record { place = tag_now rows done row - 1; indexes = classes_below 2048 }

  abbrev others : List Row → List PlacedRow
  others [] = []
  others (row ∷ more) = if is_same_row turn row then others more else placed row ∷ others more

  skipped : (row : Row) (more : List Row) → is_same_row turn row ≡ true → others (row ∷ more) ≡ others more
  skipped row more t = if_true (is_same_row turn row) (others more) (placed row ∷ others more) t

  taken_in : (row : Row) (more : List Row) → is_same_row turn row ≡ false → others (row ∷ more) ≡ placed row ∷ others more
  taken_in row more f = if_false (is_same_row turn row) (others more) (placed row ∷ others more) f

  no_more : (list : List Row) → length (others list) ≤ length list
  no_more [] = omega arith
  no_more (row ∷ more) = let rest = no_more more in by_cases (is_same_row turn row)
      (λ t. let same : length (others (row ∷ more)) ≡ length (others more) = ap length (skipped row more t) in omega (arith, same, rest))
      (λ f. let same : length (others (row ∷ more)) ≡ suc (length (others more)) = ap length (taken_in row more f) in omega (arith, same, rest))

  fewer : (list : List Row) → ((row : Row) → turn ≡ row → is_same_row turn row ≡ true) → Contains list turn → length (others list) < length list
  fewer [] same there = absurd (omega (arith, there.1))
  fewer (row ∷ more) same there = elim (Contains-cons_cases row turn more there) [
    | inl here ↦ (let rest = no_more more in
        let skips : length (others (row ∷ more)) ≡ length (others more) = ap length (skipped row more (same row (sym here))) in
        omega (arith, skips, rest))
    | inr later ↦ (let rest = fewer more same later in
        by_cases (is_same_row turn row)
        (λ t. let skips : length (others (row ∷ more)) ≡ length (others more) = ap length (skipped row more t) in omega (arith, skips, rest))
        (λ f. let takes : length (others (row ∷ more)) ≡ suc (length (others more)) = ap length (taken_in row more f) in omega (arith, takes, rest)))
  ]

  are_rows : (list : List Row) → All (λ (row : PlacedRow). AreIndexes row.indexes) (others list)
  are_rows [] = All-nil (λ (row : PlacedRow). AreIndexes row.indexes)
  are_rows (row ∷ more) = by_cases (is_same_row turn row)
      (λ t. All-same (λ (row : PlacedRow). AreIndexes row.indexes) (others (row ∷ more)) (others more) (skipped row more t) (are_rows more))
      (λ f. All-same (λ (row : PlacedRow). AreIndexes row.indexes) (others (row ∷ more)) (placed row ∷ others more) (taken_in row more f)
      (All-cons (λ (row : PlacedRow). AreIndexes row.indexes) (placed row) (others more) (all_below 2048) (are_rows more)))

  has : (list : List Row) (row : Row) (test : PlacedRow → Bool) → Contains list row → row ≢ turn → test (placed row) ≡ true → list_any test (others list) ≡ true
  has [] row test there differs e = absurd (omega (arith, there.1))
  has (first ∷ more) row test there differs e = by_cases (is_same_row turn first)
      (λ t. ap (list_any test) (skipped first more t)
      ∙ has more row test (elim (Contains-cons_cases first row more there) [
        | inl here ↦ absurd (differs (sym here ∙ sym (row_same turn first t)))
        | inr later ↦ later
      ]) differs e)
      (λ f. ap (list_any test) (taken_in first more f)
      ∙ elim (Contains-cons_cases first row more there) [
        | inl here ↦ or_left (test (placed first)) (list_any test (others more)) (ap (λ (r : Row). test (placed r)) here ∙ e)
        | inr later ↦ or_right (test (placed first)) (list_any test (others more)) (has more row test later differs e)
      ])

  module _ (d : Reading) (used taken : ℕ → Bool) (tabled : IsTabled rows.next) (m : Midway rows done d used taken)
      (touched : Row → Bool) (touches : Touches rows touched) (is_turn : IsTurn touched done turn)
      (before : ℕ) (old new : ℕ → Bool) (of : IsRowOf rows turn before old new) (few : HasFewRows 16384 rows.next)
      (same : (row : Row) → turn ≡ row → is_same_row turn row ≡ true) where
    is_listed : (row : Row) → IsRow rows.next row → Contains few.0 row
    is_listed row is =
        let long : length (row.1 ++ (is.0 ∷ is.1.0)) ≡ length row.1 + suc (length is.1.0) = length-append row.1 (is.0 ∷ is.1.0) in
        let prefix : take (length row.1) (row.1 ++ (is.0 ∷ is.1.0)) ≡ row.1 = take-append_seam row.1 (is.0 ∷ is.1.0) in
        let one : (row.0, take (length row.1) (row.1 ++ (is.0 ∷ is.1.0))) ≡ row = (λ i. (row.0, prefix i)) in
        subst (λ (r : Row). Contains few.0 r) one (few.2 (sent row.0 (row.1 ++ (is.0 ∷ is.1.0))) (length row.1) is.1.1 (omega (arith, long)))

    pub other_rows : (freed : ℕ → Bool) → Laid (λ class. before - 1 + class) (λ class. old class && new class) (λ class. false) 2048 used freed
        → HasOtherRows freed (given_up taken before)
    other_rows freed frees = record {
      rows = others few.0;
      few = (let less = fewer few.0 same (is_listed turn of.is) in let most = few.1 in omega (arith, less, most));
      are_rows = are_rows few.0;
      places = λ displacement e. (let o = given_of rows done d used taken tabled m touched touches turn is_turn before 0 old new of freed frees rows.after (λ row differs is. refl)
          (given_up taken before) (λ displacement. refl) displacement e in
          let tag : tag_now rows done o.0 ≡ suc displacement = o.3 in
          has few.0 o.0 (λ row. row.place == displacement) (is_listed o.0 (is_next rows done o.0 o.1)) o.2
          (eq-eqb (tag_now rows done o.0 - 1) displacement (omega (arith, tag))));
      cells = λ cell e. (let o = freed_other rows done d used taken tabled m touched touches turn is_turn before 0 old new of freed frees rows.after (λ row differs is. refl) cell e in
          let index = now_next rows done o.0 o.1 o.2 in
          let at : 67108864 + (tag_now rows done o.0 - 1 + o.1) ≡ 67108864 + cell = o.4 in
          has few.0 o.0 (λ row. row_uses Displacements row cell) (is_listed o.0 (row_of rows.next o.0 o.1 index)) o.3
          (is_below 2048 o.1 (tag_now rows done o.0 - 1) cell (index_in_range rows.next o.0.0 o.0.1 o.1 tabled index) (omega (arith, at))));
    }
