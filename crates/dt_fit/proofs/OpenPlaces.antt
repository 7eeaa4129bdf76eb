-- The places at which the bits of a row are free, 64 at a time.
use Rattle.std.proofs.Common.{◌≡◌, ◌==◌, ℕ, ◌+◌, ◌-◌, ◌*◌, ◌^◌, ◌<◌, Bool, true, false, not, ◌&&◌, ◌||◌, List, length, get_or, take, drop, refl, sym, ap, ◌∙◌, arith, inl, inr, w64, max}
use Rattle.std.proofs.lemmas.Bool.{and_left, and_from, cases_lt, false≢true, true≢false}
use Rattle.std.proofs.lemmas.Bool.Decides.{nat_tests}
use Rattle.std.proofs.lemmas.List.{take-append-drop}
use Rattle.std.proofs.lemmas.List.Folds.{list_all-append, list_all_more, list_all_at}
use Rattle.std.proofs.lemmas.Nat.Bits.{bit_at-lt, bit_at_or, bit_at_ones, bit_at-trailing_ones}
use Rattle.std.specs.Prelude.{bit_or}
use Rattle.std.specs.Int.{bit_at, trailing_ones}
use Rattle.std.specs.List.{list_all}
use Rattle.dt_graph.specs.ClassSet.{has_bit}
use Rattle.dt_fit.specs.Bits.{are_free, is_open}
use Rattle.dt_fit.specs.Fits.{IsLowest, SomePlace}

-- ---- index by index

pub free_of_none : (words : List ℕ) (step place : ℕ) (indexes : List ℕ) → true ≡ are_free words step (take 0 indexes) place
unfolding are_free
free_of_none words step place indexes = refl

pub free_more : (words : List ℕ) (step place i : ℕ) (indexes : List ℕ) → i < length indexes
    → are_free words step (take (i + 1) indexes) place ≡ (are_free words step (take i indexes) place && not (has_bit words (step * get_or indexes i 0 + place)))
unfolding are_free
free_more words step place i indexes inside = list_all_more (λ index. not (has_bit words (step * index + place))) indexes i 0 inside

-- what isn't free for some of the indexes isn't for all
pub not_free : (words : List ℕ) (step place i : ℕ) (indexes : List ℕ) → are_free words step (take i indexes) place ≡ false → are_free words step indexes place ≡ false
unfolding are_free
not_free words step place i indexes used =
    let test : ℕ → Bool = λ index. not (has_bit words (step * index + place)) in
    sym (ap (list_all test) (take-append-drop i indexes))
    ∙ list_all-append test (take i indexes) (drop i indexes)
    ∙ and_left (list_all test (take i indexes)) (list_all test (drop i indexes)) used

pub not_free_at : (words : List ℕ) (step place i : ℕ) (indexes : List ℕ) → i < length indexes → has_bit words (step * get_or indexes i 0 + place) ≡ true → false ≡ are_free words step indexes place
unfolding are_free
not_free_at words step place i indexes inside is_set =
    sym (list_all_at (λ index. not (has_bit words (step * index + place))) indexes i 0 inside (ap not is_set))

pub free_so_far : (words : List ℕ) (step place i : ℕ) (indexes : List ℕ) → i < length indexes → true ≡ are_free words step (take i indexes) place
    → has_bit words (step * get_or indexes i 0 + place) ≡ false → true ≡ are_free words step (take (i + 1) indexes) place
free_so_far words step place i indexes inside free unset =
    sym (free_more words step place i indexes inside ∙ and_from (are_free words step (take i indexes) place) (not (has_bit words (step * get_or indexes i 0 + place))) (sym free) (ap not unset))

-- ---- the marks of 64 places

not_used : (start : Bool) → start ≡ (start || not true)
not_used true = refl
not_used false = refl

-- no index is looked at yet
pub marked_none : (words : List ℕ) (step first start : ℕ) (indexes : List ℕ)
    → (j : ℕ) → j < 64 → (bit_at start j == 1) ≡ ((bit_at start j == 1) || not (are_free words step (take 0 indexes) (first + j)))
marked_none words step first start indexes j small =
    not_used (bit_at start j == 1) ∙ ap (λ t. (bit_at start j == 1) || not t) (free_of_none words step (first + j) indexes)

bit_either : (a b : ℕ) → a < 2 → b < 2 → (max a b == 1) ≡ ((a == 1) || (b == 1))
bit_either a b l m = grind (arith, nat_tests)

one_more : (start free used : Bool) → ((start || not free) || used) ≡ (start || not (free && not used))
one_more true free used = refl
one_more false true true = refl
one_more false true false = refl
one_more false false used = refl

-- one index more: the marks of its bits are set too
pub marked_more : (words : List ℕ) (step first i start blocked seen : ℕ) (indexes : List ℕ) → i < length indexes
    → ((j : ℕ) → j < 64 → (bit_at blocked j == 1) ≡ ((bit_at start j == 1) || not (are_free words step (take i indexes) (first + j))))
    → ((j : ℕ) → j < 64 → (bit_at seen j == 1) ≡ has_bit words (step * get_or indexes i 0 + first + j))
    → (j : ℕ) → j < 64 → (bit_at (bit_or blocked seen) j == 1) ≡ ((bit_at start j == 1) || not (are_free words step (take (i + 1) indexes) (first + j)))
marked_more words step first i start blocked seen indexes inside so_far window j small =
    let begun : Bool = bit_at start j == 1 in
    let free : Bool = are_free words step (take i indexes) (first + j) in
    let used : Bool = has_bit words (step * get_or indexes i 0 + (first + j)) in
    let same_bit : (bit_at seen j == 1) ≡ used = window j small ∙ ap (has_bit words) (omega arith) in
    ap (λ b. b == 1) (bit_at_or blocked seen j)
    ∙ bit_either (bit_at blocked j) (bit_at seen j) (bit_at-lt blocked j) (bit_at-lt seen j)
    ∙ ap (λ t. t || (bit_at seen j == 1)) (so_far j small)
    ∙ ap (λ t. (begun || not free) || t) same_bit
    ∙ one_more begun free used
    ∙ ap (λ t. begun || not t) (sym (free_more words step (first + j) i indexes inside))

stays_full : (start free all : Bool) → (free ≡ false → all ≡ false) → true ≡ (start || not free) → true ≡ (start || not all)
stays_full true free all more full = refl
stays_full false true all more full = absurd (true≢false full)
stays_full false false all more full = sym (ap not (more refl))

-- no further index changes marks that are all set
pub marked_full : (words : List ℕ) (step first i start blocked : ℕ) (indexes : List ℕ) → blocked ≡ 2 ^ 64 - 1
    → ((j : ℕ) → j < 64 → (bit_at blocked j == 1) ≡ ((bit_at start j == 1) || not (are_free words step (take i indexes) (first + j))))
    → (j : ℕ) → j < 64 → (bit_at blocked j == 1) ≡ ((bit_at start j == 1) || not (are_free words step indexes (first + j)))
marked_full words step first i start blocked indexes full so_far j small =
    let is_one : (bit_at blocked j == 1) ≡ true = ap (λ b. b == 1) (ap (λ w. bit_at w j) full ∙ bit_at_ones 64 j small) in
    is_one
    ∙ stays_full (bit_at start j == 1) (are_free words step (take i indexes) (first + j)) (are_free words step indexes (first + j))
    (not_free words step (first + j) i indexes)
    (sym is_one ∙ so_far j small)

-- ---- the search

not_both : (t f : Bool) → (t || not f) ≡ not (not t && f)
not_both true f = refl
not_both false f = refl

-- the marks tell which of the 64 places from `first` on aren't open
unfoldable pub AreMarks : List ℕ → List ℕ → ℕ → List ℕ → ℕ → ℕ → Type 0
AreMarks taken words step indexes first blocked = (j : ℕ) → j < 64 → (bit_at blocked j == 1) ≡ not (is_open taken words step indexes (first + j))

pub marks : (taken words : List ℕ) (step first start blocked : ℕ) (indexes : List ℕ)
    → ((j : ℕ) → j < 64 → (bit_at start j == 1) ≡ has_bit taken (first + j))
    → ((j : ℕ) → j < 64 → (bit_at blocked j == 1) ≡ ((bit_at start j == 1) || not (are_free words step indexes (first + j))))
    → AreMarks taken words step indexes first blocked
unfolding AreMarks is_open
marks taken words step first start blocked indexes begun marked j small =
    let free : Bool = are_free words step indexes (first + j) in
    marked j small ∙ ap (λ t. t || not free) (begun j small) ∙ not_both (has_bit taken (first + j)) free

-- no place below `first` is open, and the marks are of the places from there on
pub record IsSearched (taken words : List ℕ) (step : ℕ) (indexes : List ℕ) (first blocked : ℕ) : Type 0 where
  pub in_range : first < 2 ^ 26
  pub fits : blocked < 2 ^ 64
  pub none_below : (lower : ℕ) → lower < first → is_open taken words step indexes lower ≡ false
  pub marked : AreMarks taken words step indexes first blocked

not_open : (b : Bool) → true ≡ not b → b ≡ false
not_open true e = absurd (true≢false e)
not_open false e = refl

is_open_here : (b : Bool) → false ≡ not b → b ≡ true
is_open_here true e = refl
is_open_here false e = absurd (false≢true e)

-- none of the 64 places is open
none_of_all : (taken words : List ℕ) (step first blocked : ℕ) (indexes : List ℕ) → IsSearched taken words step indexes first blocked → blocked ≡ 2 ^ 64 - 1
    → (lower : ℕ) → lower < first + 64 → is_open taken words step indexes lower ≡ false
unfolding AreMarks
none_of_all taken words step first blocked indexes searched full lower below =
    elim (cases_lt lower first) [
      | inl before ↦ searched.none_below lower before
      | inr from ↦
          let j : ℕ = lower - first in
          let place : first + j ≡ lower = omega (arith, from) in
          let is_one : (bit_at blocked j == 1) ≡ true = ap (λ b. b == 1) (ap (λ w. bit_at w j) full ∙ bit_at_ones 64 j (omega (arith, below, from))) in
          ap (is_open taken words step indexes) (sym place)
          ∙ not_open (is_open taken words step indexes (first + j)) (sym is_one ∙ searched.marked j (omega (arith, below, from)))
    ]

-- so a place that is open comes after them
pub room_after : (taken words : List ℕ) (step first blocked : ℕ) (indexes : List ℕ) → IsSearched taken words step indexes first blocked → blocked ≡ 2 ^ 64 - 1
    → SomePlace (is_open taken words step indexes) (2 ^ 26) → first + 64 < 2 ^ 26
room_after taken words step first blocked indexes searched full room =
    elim (cases_lt room.0 (first + 64)) [
      | inl early ↦ absurd (false≢true (sym (none_of_all taken words step first blocked indexes searched full room.0 early) ∙ room.2))
      | inr late ↦ let small = room.1 in omega arith
    ]

pub searched_more : (taken words : List ℕ) (step first blocked more : ℕ) (indexes : List ℕ) → IsSearched taken words step indexes first blocked → blocked ≡ 2 ^ 64 - 1
    → SomePlace (is_open taken words step indexes) (2 ^ 26) → more < 2 ^ 64 → AreMarks taken words step indexes (first + 64) more
    → IsSearched taken words step indexes (first + 64) more
searched_more taken words step first blocked more indexes searched full room fits marked = record {
  fits = fits;
  in_range = room_after taken words step first blocked indexes searched full room;
  none_below = none_of_all taken words step first blocked indexes searched full;
  marked = marked;
}

pub searched_first : (taken words : List ℕ) (step blocked : ℕ) (indexes : List ℕ) → blocked < 2 ^ 64 → AreMarks taken words step indexes 0 blocked
    → IsSearched taken words step indexes 0 blocked
searched_first taken words step blocked indexes fits marked = record {
  fits = fits;
  in_range = omega arith;
  none_below = λ lower below. absurd (omega (arith, below));
  marked = marked;
}

-- the first of the marks that isn't set is of the lowest open place
pub found : (taken words : List ℕ) (step first blocked : ℕ) (indexes : List ℕ) → IsSearched taken words step indexes first blocked → (blocked ≡ 2 ^ 64 - 1 → ⊥)
    → IsLowest (is_open taken words step indexes) (first + trailing_ones w64 blocked)
unfolding AreMarks
found taken words step first blocked indexes searched some =
    let t : ℕ = trailing_ones w64 blocked in
    let lowest = bit_at-trailing_ones w64 blocked (omega (arith, searched.fits, some)) in record {
      passes = is_open_here (is_open taken words step indexes (first + t)) (sym (ap (λ b. b == 1) lowest.1) ∙ searched.marked t lowest.0);
      none_below = λ lower below. elim (cases_lt lower first) [
        | inl before ↦ searched.none_below lower before
        | inr from ↦
            let j : ℕ = lower - first in
            let small : j < t = omega (arith, below, from) in
            let inside : j < 64 = let few = lowest.0 in omega arith in
            ap (is_open taken words step indexes) (omega (arith, from))
            ∙ not_open (is_open taken words step indexes (first + j)) (sym (ap (λ b. b == 1) (lowest.2 j small)) ∙ searched.marked j inside)
      ];
    }
