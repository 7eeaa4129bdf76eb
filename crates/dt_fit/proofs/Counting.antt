-- A row always fits: of the first places each other row forbids few, so one is left.
use Rattle.std.proofs.Common.{◌≡◌, ◌==◌, ℕ, zero, suc, ◌+◌, ◌*◌, ◌<◌, ◌≤◌, Bool, true, false, not, ◌&&◌, nat_le, IsTrue, List, [], ◌∷◌, length, ◌⊎◌, refl, sym, ap, ◌∙◌, ⊎_elim, arith, eqb-true, inl, inr}
use Rattle.std.proofs.lemmas.Bool.{cases_Bool, or_cases, and_from, and_parts, le-leb, leb-true, false≢true, false_from_ne_true}
use Rattle.std.proofs.lemmas.List.Elements.{All-head, All-tail}
use native.Mathlib.Nat.{mul-suc}
use Rattle.std.specs.List.{list_any}
use Rattle.dt_fit.specs.declared.geometry.Geometry.{Geometry}
use Rattle.dt_fit.specs.declared.geometry.Geometry.TheVariants.{Colours, Displacements}
use Rattle.dt_fit.specs.Geometry.{cell_at, index_limit, reach_of, spread_of}
use Rattle.dt_fit.specs.Fits.{fits, fits_untaken, SomePlace}
use Rattle.dt_fit.specs.Rows.{PlacedRow, AreIndexes, AreRows, AreCellsOf, ArePlacesOf, row_uses, rows_use}

-- ---- how many numbers below a bound pass a test

abbrev tally : Bool → ℕ
tally true = 1
tally false = 0

abbrev count : (ℕ → Bool) → ℕ → ℕ
count test zero = 0
count test (suc n) = tally (test n) + count test n

count_all : (n : ℕ) → count (λ k. true) n ≡ n
count_all zero = refl
count_all (suc n) = let rest = count_all n in omega arith

-- without those that pass another test, at most so many fewer do
left_of_one : (q r : Bool) → tally q ≤ tally (q && not r) + tally r
left_of_one true true = omega arith
left_of_one true false = omega arith
left_of_one false true = omega arith
left_of_one false false = omega arith

count_left : (q r : ℕ → Bool) (n : ℕ) → count q n ≤ count (λ k. q k && not (r k)) n + count r n
count_left q r zero = omega arith
count_left q r (suc n) = omega (arith, left_of_one (q n) (r n), count_left q r n)

-- where some pass, there is one
some_counted : (q : ℕ → Bool) (n : ℕ) → 0 < count q n → (k : ℕ) × (k < n) × IsTrue (q k)
some_counted q zero some = absurd (omega (arith, some))
some_counted q (suc n) some =
    elim (cases_Bool (q n)) [
      | inl passes ↦ (n, omega arith, passes)
      | inr fails ↦
          let none : tally (q n) ≡ 0 = ap tally fails in
          let rest = some_counted q n (omega (arith, some, none)) in
          (rest.0, omega (arith, rest.1), rest.2)
    ]

-- ---- the places near another

-- the two differ by no more than `reach`
abbrev near : ℕ → ℕ → ℕ → Bool
near reach place k = nat_le place (k + reach) && nat_le k (place + reach)

near_one : (reach place k : ℕ) → (tally (near reach place k) ≡ 0) ⊎ ((tally (near reach place k) ≡ 1) × (place ≤ k + reach) × (k ≤ place + reach))
near_one reach place k =
    elim (cases_Bool (near reach place k)) [
      | inl is_near ↦
          let parts = and_parts (nat_le place (k + reach)) (nat_le k (place + reach)) is_near in
          inr (ap tally is_near, leb-true place (k + reach) parts.0, leb-true k (place + reach) parts.1)
      | inr far ↦ inl (ap tally far)
    ]

-- so many are counted below n: none below the first, and no more than there are
near_counted : (reach place n : ℕ) → (count (near reach place) n + place ≤ n + reach) ⊎ (count (near reach place) n ≡ 0)
near_counted reach place zero = inr refl
near_counted reach place (suc n) =
    elim (near_one reach place n) [
      | inl far ↦
          elim (near_counted reach place n) [
            | inl some ↦ inl (omega (arith, far, some))
            | inr none ↦ inr (omega (arith, far, none))
          ]
      | inr here ↦
          elim (near_counted reach place n) [
            | inl some ↦ inl (omega (arith, here.0, some))
            | inr none ↦ inl (omega (arith, here.0, here.1, none))
          ]
    ]

near_few : (reach place n : ℕ) → count (near reach place) n ≤ 2 * reach + 1
near_few reach place zero = omega arith
near_few reach place (suc n) =
    elim (near_one reach place n) [
      | inl far ↦ omega (arith, far, near_few reach place n)
      | inr here ↦
          elim (near_counted reach place n) [
            | inl some ↦ omega (arith, here.0, here.2, some)
            | inr none ↦ omega (arith, here.0, none)
          ]
    ]

-- ---- the places that no row forbids

-- no row is near the place
abbrev free_of : ℕ → List PlacedRow → ℕ → Bool
free_of reach [] k = true
free_of reach (row ∷ rows) k = free_of reach rows k && not (near reach row.place k)

many_free : (reach : ℕ) (rows : List PlacedRow) (n : ℕ) → n ≤ count (free_of reach rows) n + (2 * reach + 1) * length rows
many_free reach [] n = omega (arith, count_all n)
many_free reach (row ∷ rows) n =
    let more : (2 * reach + 1) * length (row ∷ rows) ≡ (2 * reach + 1) * length rows + (2 * reach + 1) = mul-suc (2 * reach + 1) (length rows) in
    omega (arith, many_free reach rows n, count_left (free_of reach rows) (near reach row.place) n, near_few reach row.place n, more)

some_free : (reach : ℕ) (rows : List PlacedRow) → (k : ℕ) × (k < (2 * reach + 1) * length rows + 1) × IsTrue (free_of reach rows k)
some_free reach rows =
    let n : ℕ = (2 * reach + 1) * length rows + 1 in
    some_counted (free_of reach rows) n (omega (arith, many_free reach rows n))

-- ---- such a place is free of the rows' cells and places

-- a row that has a cell in common is near
cells_apart : (geometry : Geometry) (other place i index : ℕ) → i < 2048 → index < 2048 → cell_at geometry other i ≡ cell_at geometry place index
    → IsTrue (near (reach_of geometry) other place)
cells_apart Colours other place i index small small_too same =
    let equal : other ≡ place = omega (arith, same, small, small_too) in
    and_from (nat_le other (place + 0)) (nat_le place (other + 0)) (le-leb other (place + 0) (omega arith)) (le-leb place (other + 0) (omega arith))
cells_apart Displacements other place i index small small_too same =
    and_from (nat_le other (place + 2047)) (nat_le place (other + 2047)) (le-leb other (place + 2047) (omega (arith, same, small, small_too))) (le-leb place (other + 2047) (omega (arith, same, small, small_too)))

row_apart : (geometry : Geometry) (other place index : ℕ) (indexes : List ℕ) → AreIndexes indexes → index < 2048
    → IsTrue (list_any (λ i. cell_at geometry other i == cell_at geometry place index) indexes) → IsTrue (near (reach_of geometry) other place)
row_apart geometry other place index [] are small uses = absurd (false≢true uses)
row_apart geometry other place index (i ∷ indexes) are small uses =
    ⊎_elim
    (λ here. cells_apart geometry other place i index (All-head (λ n. n < index_limit) i indexes are) small (eqb-true (cell_at geometry other i) (cell_at geometry place index) here))
    (λ later. row_apart geometry other place index indexes (All-tail (λ n. n < index_limit) i indexes are) small later)
    (or_cases (cell_at geometry other i == cell_at geometry place index) (list_any (λ k. cell_at geometry other k == cell_at geometry place index) indexes) uses)

rows_apart : (geometry : Geometry) (rows : List PlacedRow) (place index : ℕ) → AreRows rows → index < 2048
    → IsTrue (rows_use geometry rows (cell_at geometry place index)) → IsTrue (free_of (reach_of geometry) rows place) → ⊥
rows_apart geometry [] place index are small uses free = false≢true uses
rows_apart geometry (row ∷ rows) place index are small uses free =
    let parts = and_parts (free_of (reach_of geometry) rows place) (not (near (reach_of geometry) row.place place)) free in
    ⊎_elim
    (λ here.
    let is_near = row_apart geometry row.place place index row.indexes (All-head (λ r. AreIndexes r.indexes) row rows are) small here in
    false≢true (sym (ap not is_near) ∙ parts.1))
    (λ later. rows_apart geometry rows place index (All-tail (λ r. AreIndexes r.indexes) row rows are) small later parts.0)
    (or_cases (row_uses geometry row (cell_at geometry place index)) (rows_use geometry rows (cell_at geometry place index)) uses)

near_itself : (reach place k : ℕ) → place ≡ k → IsTrue (near reach place k)
near_itself reach place k same =
    and_from (nat_le place (k + reach)) (nat_le k (place + reach)) (le-leb place (k + reach) (omega (arith, same))) (le-leb k (place + reach) (omega (arith, same)))

places_apart : (reach : ℕ) (rows : List PlacedRow) (place : ℕ) → IsTrue (list_any (λ row. row.place == place) rows) → IsTrue (free_of reach rows place) → ⊥
places_apart reach [] place taken free = false≢true taken
places_apart reach (row ∷ rows) place taken free =
    let parts = and_parts (free_of reach rows place) (not (near reach row.place place)) free in
    ⊎_elim
    (λ here. false≢true (sym (ap not (near_itself reach row.place place (eqb-true row.place place here))) ∙ parts.1))
    (λ later. places_apart reach rows place later parts.0)
    (or_cases (row.place == place) (list_any (λ r. r.place == place) rows) taken)

each_fits : (geometry : Geometry) (used : ℕ → Bool) (indexes : List ℕ) (place : ℕ) → AreIndexes indexes
    → ((index : ℕ) → index < 2048 → used (cell_at geometry place index) ≡ false) → IsTrue (fits geometry used indexes place)
each_fits geometry used [] place are free = refl
each_fits geometry used (index ∷ indexes) place are free =
    and_from (not (used (cell_at geometry place index))) (fits geometry used indexes place)
    (ap not (free index (All-head (λ n. n < index_limit) index indexes are)))
    (each_fits geometry used indexes place (All-tail (λ n. n < index_limit) index indexes are) free)

pub row_fits : (geometry : Geometry) (rows : List PlacedRow) (taken used : ℕ → Bool) (indexes : List ℕ)
    → AreRows rows → AreIndexes indexes → ArePlacesOf rows taken → AreCellsOf geometry rows used
    → SomePlace (fits_untaken geometry taken used indexes) (spread_of geometry * length rows + 1)
row_fits geometry rows taken used indexes are_rows are_indexes places cells =
    let free = some_free (reach_of geometry) rows in
    let place : ℕ = free.0 in (
      place,
      free.1,
      and_from (not (taken place)) (fits geometry used indexes place)
          (ap not (false_from_ne_true (taken place) (λ is_taken. places_apart (reach_of geometry) rows place (places place is_taken) free.2)))
          (each_fits geometry used indexes place are_indexes (λ index small.
          false_from_ne_true (used (cell_at geometry place index)) (λ is_used.
          rows_apart geometry rows place index are_rows small (cells (cell_at geometry place index) is_used) free.2))),
    )

-- the same where no place is taken
pub row_fits_only : (geometry : Geometry) (rows : List PlacedRow) (used : ℕ → Bool) (indexes : List ℕ)
    → AreRows rows → AreIndexes indexes → AreCellsOf geometry rows used → SomePlace (fits geometry used indexes) (spread_of geometry * length rows + 1)
row_fits_only geometry rows used indexes are_rows are_indexes cells =
    row_fits geometry rows (λ place. false) used indexes are_rows are_indexes (λ place none. absurd (false≢true none)) cells

pub wider : (test : ℕ → Bool) (small large : ℕ) → small ≤ large → SomePlace test small → SomePlace test large
wider test small large less some = (some.0, omega (arith, less, some.1), some.2)

cell_past : (geometry : Geometry) (place index : ℕ) → place ≤ cell_at geometry place index
cell_past Colours place index = omega arith
cell_past Displacements place index = omega arith

pub past_all_fits : (geometry : Geometry) (used : ℕ → Bool) (indexes : List ℕ) (bound : ℕ)
    → ((cell : ℕ) → bound ≤ cell → used cell ≡ false) → IsTrue (fits geometry used indexes bound)
past_all_fits geometry used [] bound none = refl
past_all_fits geometry used (index ∷ indexes) bound none =
    and_from (not (used (cell_at geometry bound index))) (fits geometry used indexes bound)
    (ap not (none (cell_at geometry bound index) (cell_past geometry bound index)))
    (past_all_fits geometry used indexes bound none)
