-- Cells by their bits: what a change of a bit makes of them, and where a row fits.
use Rattle.std.proofs.Common.{◌≡◌, ◌==◌, ℕ, ◌+◌, ◌*◌, ◌^◌, ◌<◌, ◌≤◌, Bool, false, not, ◌&&◌, ◌||◌, nat_lt, IsTrue, List, [], ◌∷◌, refl, sym, ap, ◌∙◌, arith, eq-eqb, ne_eqb, inl, inr}
use Rattle.std.proofs.lemmas.Bool.{and_right, cases_lt, cases_eq, lt-ltb, le-ltb, false≢true}
use Rattle.std.proofs.lemmas.List.Elements.{All-head, All-tail}
use Rattle.dt_graph.specs.ClassSet.{has_bit}
use Rattle.dt_fit.specs.declared.geometry.Geometry.{Geometry}
use Rattle.dt_fit.specs.declared.geometry.Geometry.TheVariants.{Colours, Displacements}
use Rattle.dt_fit.specs.Geometry.{cell_at, cell_limit, place_limit, index_limit}
use Rattle.dt_fit.specs.Fits.{fits, fits_untaken, IsLowest, SomePlace}
use Rattle.dt_fit.specs.Rows.{AreIndexes}
use Rattle.dt_fit.specs.Cells.{bit_of, is_used}
use Rattle.dt_fit.specs.Bits.{step_of, are_free, is_open}
use Rattle.dt_fit.proofs.WordBits.{no_bit}

-- ---- one cell

pub none_used : (geometry : Geometry) (cell : ℕ) → is_used geometry [] cell ≡ false
none_used geometry cell = and_right (nat_lt cell (cell_limit geometry)) (has_bit [] (bit_of geometry cell)) (no_bit (bit_of geometry cell))

pub used_by_bit : (geometry : Geometry) (words : List ℕ) (cell : ℕ) → cell < cell_limit geometry → is_used geometry words cell ≡ has_bit words (bit_of geometry cell)
used_by_bit geometry words cell small = ap (λ t. t && has_bit words (bit_of geometry cell)) (lt-ltb cell (cell_limit geometry) small)

pub never_used : (geometry : Geometry) (words : List ℕ) (cell : ℕ) → cell_limit geometry ≤ cell → is_used geometry words cell ≡ false
never_used geometry words cell large = ap (λ t. t && has_bit words (bit_of geometry cell)) (le-ltb cell (cell_limit geometry) large)

-- two cells have two bits
bits_differ : (geometry : Geometry) (cell other : ℕ) → cell < cell_limit geometry → other < cell_limit geometry → bit_of geometry cell ≡ bit_of geometry other → cell ≡ other
bits_differ Colours cell other small small_too same = omega (arith, same, small, small_too)
bits_differ Displacements cell other small small_too same = same

same_test : (geometry : Geometry) (cell other : ℕ) → cell < cell_limit geometry → other < cell_limit geometry → (bit_of geometry other == bit_of geometry cell) ≡ (other == cell)
same_test geometry cell other small small_too =
    elim (cases_eq other cell) [
      | inl same ↦ eq-eqb (bit_of geometry other) (bit_of geometry cell) (ap (bit_of geometry) same) ∙ sym (eq-eqb other cell same)
      | inr differ ↦
          ne_eqb (bit_of geometry other) (bit_of geometry cell) (λ same. differ (bits_differ geometry other cell small_too small same))
          ∙ sym (ne_eqb other cell differ)
    ]

-- the words in which the bit of the cell is set
pub used_taken : (geometry : Geometry) (words changed : List ℕ) (cell other : ℕ) → cell < cell_limit geometry
    → ((n : ℕ) → has_bit changed n ≡ ((n == bit_of geometry cell) || has_bit words n))
    → is_used geometry changed other ≡ ((other == cell) || is_used geometry words other)
used_taken geometry words changed cell other small each =
    elim (cases_lt other (cell_limit geometry)) [
      | inl inside ↦
          used_by_bit geometry changed other inside
          ∙ each (bit_of geometry other)
          ∙ ap (λ t. t || has_bit words (bit_of geometry other)) (same_test geometry cell other small inside)
          ∙ ap (λ t. (other == cell) || t) (sym (used_by_bit geometry words other inside))
      | inr past ↦
          never_used geometry changed other past
          ∙ sym (ap (λ t. t || is_used geometry words other) (ne_eqb other cell (λ same. absurd (omega (arith, same, small, past)))) ∙ never_used geometry words other past)
    ]

-- the words in which the bit of the cell is cleared
pub used_freed : (geometry : Geometry) (words changed : List ℕ) (cell other : ℕ) → cell < cell_limit geometry
    → ((n : ℕ) → has_bit changed n ≡ (not (n == bit_of geometry cell) && has_bit words n))
    → is_used geometry changed other ≡ (not (other == cell) && is_used geometry words other)
used_freed geometry words changed cell other small each =
    elim (cases_lt other (cell_limit geometry)) [
      | inl inside ↦
          used_by_bit geometry changed other inside
          ∙ each (bit_of geometry other)
          ∙ ap (λ t. not t && has_bit words (bit_of geometry other)) (same_test geometry cell other small inside)
          ∙ ap (λ t. not (other == cell) && t) (sym (used_by_bit geometry words other inside))
      | inr past ↦
          never_used geometry changed other past
          ∙ sym (and_right (not (other == cell)) (is_used geometry words other) (never_used geometry words other past))
    ]

-- words with the same bits tell of the same cells
pub same_used : (geometry : Geometry) (words others : List ℕ) (cell : ℕ) → ((n : ℕ) → has_bit words n ≡ has_bit others n) → is_used geometry words cell ≡ is_used geometry others cell
same_used geometry words others cell same = ap (λ t. nat_lt cell (cell_limit geometry) && t) (same (bit_of geometry cell))

-- ---- rows

cell_bit : (geometry : Geometry) (words : List ℕ) (place index : ℕ) → index < 2048 → place < place_limit geometry
    → is_used geometry words (cell_at geometry place index) ≡ has_bit words (step_of geometry * index + place)
cell_bit Colours words place index small inside =
    used_by_bit Colours words (cell_at Colours place index) (omega (arith, small, inside)) ∙ ap (has_bit words) (omega (arith, small))
cell_bit Displacements words place index small inside =
    used_by_bit Displacements words (cell_at Displacements place index) (omega (arith, small, inside)) ∙ ap (has_bit words) (omega arith)

pub fits_by_bits : (geometry : Geometry) (words indexes : List ℕ) (place : ℕ) → AreIndexes indexes → place < place_limit geometry
    → are_free words (step_of geometry) indexes place ≡ fits geometry (is_used geometry words) indexes place
unfolding are_free
fits_by_bits geometry words [] place are inside = refl
fits_by_bits geometry words (index ∷ indexes) place are inside =
    ap (λ t. not t && are_free words (step_of geometry) indexes place)
    (sym (cell_bit geometry words place index (All-head (λ n. n < index_limit) index indexes are) inside))
    ∙ ap (λ t. not (is_used geometry words (cell_at geometry place index)) && t)
    (fits_by_bits geometry words indexes place (All-tail (λ n. n < index_limit) index indexes are) inside)

below : (geometry : Geometry) (place : ℕ) → place < place_limit geometry → place < 2 ^ 27
below Colours place inside = omega (arith, inside)
below Displacements place inside = omega (arith, inside)

pub open_by_bits : (geometry : Geometry) (taken words indexes : List ℕ) (place : ℕ) → AreIndexes indexes → place < place_limit geometry
    → is_open taken words (step_of geometry) indexes place ≡ fits_untaken geometry (is_used Displacements taken) (is_used geometry words) indexes place
unfolding is_open
open_by_bits geometry taken words indexes place are inside =
    ap (λ t. not t && are_free words (step_of geometry) indexes place) (sym (used_by_bit Displacements taken place (below geometry place inside)))
    ∙ ap (λ t. not (is_used Displacements taken place) && t) (fits_by_bits geometry words indexes place are inside)

-- where no place is taken
pub open_alone : (geometry : Geometry) (words indexes : List ℕ) (place : ℕ) → AreIndexes indexes → place < place_limit geometry
    → is_open [] words (step_of geometry) indexes place ≡ fits geometry (is_used geometry words) indexes place
unfolding is_open
open_alone geometry words indexes place are inside =
    ap (λ t. not t && are_free words (step_of geometry) indexes place) (no_bit place) ∙ fits_by_bits geometry words indexes place are inside

-- ---- one test for another, below a limit

pub room_for : (test other : ℕ → Bool) (limit large : ℕ) → ((place : ℕ) → place < limit → test place ≡ other place) → limit ≤ large → SomePlace other limit → SomePlace test large
room_for test other limit large same less some = (some.0, omega (arith, less, some.1), same some.0 some.1 ∙ some.2)

lowest_inside : (test : ℕ → Bool) (limit lowest place : ℕ) → IsLowest test lowest → place < limit → IsTrue (test place) → lowest < limit
lowest_inside test limit lowest place is_lowest inside passes =
    elim (cases_lt place lowest) [
      | inl below_it ↦ absurd (false≢true (sym (is_lowest.none_below place below_it) ∙ passes))
      | inr from ↦ omega (arith, inside, from)
    ]

pub lowest_in_range : (test other : ℕ → Bool) (limit lowest : ℕ) → ((place : ℕ) → place < limit → test place ≡ other place) → SomePlace other limit → IsLowest test lowest → lowest < limit
lowest_in_range test other limit lowest same some is_lowest =
    lowest_inside test limit lowest some.0 is_lowest some.1 (same some.0 some.1 ∙ some.2)

pub lowest_of_other : (test other : ℕ → Bool) (limit lowest : ℕ) → ((place : ℕ) → place < limit → test place ≡ other place) → lowest < limit → IsLowest test lowest → IsLowest other lowest
lowest_of_other test other limit lowest same inside is_lowest = record {
  passes = sym (same lowest inside) ∙ is_lowest.passes;
  none_below = λ lower below_it. sym (same lower (omega (arith, inside, below_it))) ∙ is_lowest.none_below lower below_it;
}

pub limit_small : (geometry : Geometry) → place_limit geometry ≤ 2 ^ 26
limit_small Colours = omega arith
limit_small Displacements = omega arith
