-- Ascending lists as sets: lists with the same numbers are equal, and the first number from a bound on.
use Rattle.std.proofs.Common.{◌≡◌, ◌==◌, ℕ, ◌+◌, ◌<◌, ◌≤◌, Bool, true, false, ◌&&◌, IsTrue, nat_le, List, [], ◌∷◌, ◌++◌, None, Some, All, filter, refl, sym, ap, ◌∙◌, arith, eq-eqb, ltb-true, append_assoc, append-nil}
use Rattle.std.proofs.lemmas.Bool.{or_left, or_parts, false≢true, true≢false, false_from_ne_true}
use Rattle.dt_graph.specs.Graph.{has_number}
use Rattle.dt_graph.specs.Lawful.{AscendingNumbers}
use Rattle.dt_graph.specs.FirstFrom.{first_from}
use Rattle.std.proofs.lemmas.Bool.Decides.{nat_tests}
use Rattle.dt_graph.proofs.LinkLists.{each_number}
use Rattle.dt_graph.proofs.Ascending.{first_is_lowest}

-- two truth values that follow from each other are equal
pub same_truth : (a b : Bool) → (IsTrue a → IsTrue b) → (IsTrue b → IsTrue a) → a ≡ b
same_truth true true to from = refl
same_truth true false to from = absurd (false≢true (to refl))
same_truth false true to from = absurd (false≢true (from refl))
same_truth false false to from = refl

pub and_true : (a b : Bool) → IsTrue b → (a && b) ≡ a
and_true true b holds = holds
and_true false b holds = refl

-- a list in which no number is
pub nothing_listed : (numbers : List ℕ) → ((n : ℕ) → has_number numbers n ≡ false) → numbers ≡ []
nothing_listed [] none = refl
nothing_listed (a ∷ numbers) none =
    absurd (true≢false (sym (or_left (a == a) (has_number numbers a) (eq-eqb a a refl)) ∙ none a))

pub ascending_tail : (a : ℕ) (numbers : List ℕ) → AscendingNumbers (a ∷ numbers) → AscendingNumbers numbers
ascending_tail a [] ascending = tt
ascending_tail a (b ∷ numbers) ascending = ascending.1

-- no number that comes later is as low as the first of an ascending list, and none is below the first
pub none_again : (a : ℕ) (numbers : List ℕ) (n : ℕ) → AscendingNumbers (a ∷ numbers) → n ≤ a → has_number numbers n ≡ false
none_again a numbers n ascending less =
    false_from_ne_true (has_number numbers n) (λ listed. let more = first_is_lowest a numbers ascending n listed in omega arith)

abbrev SameNumbers : List ℕ → List ℕ → Type 0
SameNumbers first second = (n : ℕ) → has_number first n ≡ has_number second n

-- two ascending lists with the same numbers are equal
pub same_numbers : (first second : List ℕ) → AscendingNumbers first → AscendingNumbers second → SameNumbers first second → first ≡ second
same_numbers [] second ascends ascends' same = sym (nothing_listed second (λ n. sym (same n)))
same_numbers (a ∷ first) [] ascends ascends' same = nothing_listed (a ∷ first) same
same_numbers (a ∷ first) (b ∷ second) ascends ascends' same =
    let alike : a ≡ b = (let at_a = same a in let at_b = same b in let above = none_again b second a ascends' in
    let above' = none_again a first b ascends in grind (arith, nat_tests)) in
    let rest = same_numbers first second (ascending_tail a first ascends) (ascending_tail b second ascends') (λ n.
    let at = same n in let above = none_again a first n ascends in let above' = none_again b second n ascends' in grind (arith, nat_tests)) in
    rw (alike, rest) refl

-- ---- the first number from a bound on

-- the number is in the list and not below the bound, and no number of the list lies between
pub record IsFirstFrom (numbers : List ℕ) (least number : ℕ) : Type 0 where
  pub listed : IsTrue (has_number numbers number)
  pub more : least ≤ number
  pub none_between : (n : ℕ) → least ≤ n → n < number → has_number numbers n ≡ false

pub first_some : (numbers : List ℕ) (least number : ℕ) → AscendingNumbers numbers → first_from least numbers ≡ Some number → IsFirstFrom numbers least number
first_some [] least number ascending found = absurd cc
first_some (a ∷ numbers) least number ascending found =
    let later : first_from least numbers ≡ Some number → IsFirstFrom numbers least number = λ e. first_some numbers least number (ascending_tail a numbers ascending) e in
    record {
      listed = (let rest : first_from least numbers ≡ Some number → IsTrue (has_number numbers number) = λ e. (later e).listed in grind (arith, nat_tests));
      more = (let rest : first_from least numbers ≡ Some number → least ≤ number = λ e. (later e).more in grind (arith, nat_tests));
      none_between = λ n from to.
          let rest : first_from least numbers ≡ Some number → has_number numbers n ≡ false = λ e. (later e).none_between n from to in
          let above = none_again a numbers n ascending in grind (arith, nat_tests);
    }

-- the first number lies between the bound and the limit of all numbers
pub first_bounds : (numbers : List ℕ) (least number limit : ℕ) → AscendingNumbers numbers → All (λ n. n < limit) numbers → first_from least numbers ≡ Some number → (least ≤ number) × (number < limit)
first_bounds numbers least number limit ascending all found =
    let first = first_some numbers least number ascending found in
    (first.more, each_number (λ n. n < limit) numbers all number first.listed)

pub first_none : (numbers : List ℕ) (least : ℕ) → first_from least numbers ≡ None → (n : ℕ) → least ≤ n → has_number numbers n ≡ false
first_none [] least none n from = refl
first_none (a ∷ numbers) least none n from =
    let rest : first_from least numbers ≡ None → has_number numbers n ≡ false = λ later. first_none numbers least later n from in grind (arith, nat_tests)

pub is_first_none : (numbers : List ℕ) (least : ℕ) → ((n : ℕ) → least ≤ n → has_number numbers n ≡ false) → first_from least numbers ≡ None
is_first_none [] least none = refl
is_first_none (a ∷ numbers) least none =
    let own = none a in
    let rest = is_first_none numbers least (λ n from. (or_parts (a == n) (has_number numbers n) (none n from)).1) in grind (arith, nat_tests)

pub is_first_some : (numbers : List ℕ) (least number : ℕ) → AscendingNumbers numbers → IsFirstFrom numbers least number → first_from least numbers ≡ Some number
is_first_some [] least number ascending first = absurd (false≢true first.listed)
is_first_some (a ∷ numbers) least number ascending first =
    let rest : IsTrue (has_number numbers number) → first_from least numbers ≡ Some number = λ later.
    is_first_some numbers least number (ascending_tail a numbers ascending) (record {
      listed = later;
      more = first.more;
      none_between = λ n from to. (or_parts (a == n) (has_number numbers n) (first.none_between n from to)).1;
    }) in
    let listed = first.listed in let more = first.more in let between = first.none_between a in
    let above = none_again a numbers number ascending in grind (arith, nat_tests)

-- ---- the numbers from a bound on

abbrev pub from_on : ℕ → List ℕ → List ℕ
from_on least numbers = filter (λ n. nat_le least n) numbers

pub from_on_all : (numbers : List ℕ) → from_on 0 numbers ≡ numbers
from_on_all [] = refl
from_on_all (a ∷ numbers) = let rest = from_on_all numbers in grind (arith, nat_tests)

-- all that come after the first are above it
from_on_rest : (a : ℕ) (numbers : List ℕ) (least : ℕ) → AscendingNumbers (a ∷ numbers) → least ≤ a + 1 → from_on least numbers ≡ numbers
from_on_rest a [] least ascending low = refl
from_on_rest a (b ∷ numbers) least ascending low =
    let order = ltb-true a b ascending.0 in
    let rest = from_on_rest b numbers least ascending.1 (omega arith) in grind (arith, nat_tests)

pub from_on_some : (numbers : List ℕ) (least number : ℕ) → AscendingNumbers numbers → first_from least numbers ≡ Some number → from_on least numbers ≡ number ∷ from_on (number + 1) numbers
from_on_some [] least number ascending found = absurd cc
from_on_some (a ∷ numbers) least number ascending found =
    let more = (first_some (a ∷ numbers) least number ascending found).more in
    let later = from_on_some numbers least number (ascending_tail a numbers ascending) in
    let here = from_on_rest a numbers least ascending in
    let above = from_on_rest a numbers (number + 1) ascending in grind (arith, nat_tests)

pub from_on_none : (numbers : List ℕ) (least : ℕ) → first_from least numbers ≡ None → from_on least numbers ≡ []
from_on_none [] least none = refl
from_on_none (a ∷ numbers) least none = let rest = from_on_none numbers least in grind (arith, nat_tests)

-- ---- a walk over the numbers

-- what was listed so far and the numbers that are left make the whole
pub record IsWalked (numbers so_far : List ℕ) (least : ℕ) : Type 0 where
  pub whole : so_far ++ from_on least numbers ≡ numbers

pub IsWalked-more : (numbers so_far more : List ℕ) (least number next : ℕ) → AscendingNumbers numbers → IsWalked numbers so_far least
    → first_from least numbers ≡ Some number → more ≡ so_far ++ number ∷ [] → next ≡ number → IsWalked numbers more (next + 1)
IsWalked-more numbers so_far more least number next ascending walked found pushed same = record {
  whole = rw (pushed, same) (append_assoc so_far (number ∷ []) (from_on (number + 1) numbers)
      ∙ ap (λ ns. so_far ++ ns) (sym (from_on_some numbers least number ascending found)) ∙ walked.whole);
}

pub IsWalked-all : (numbers so_far : List ℕ) (least : ℕ) → IsWalked numbers so_far least → first_from least numbers ≡ None → so_far ≡ numbers
IsWalked-all numbers so_far least walked none = sym (append-nil so_far) ∙ (rw (from_on_none numbers least none) at walked.whole)
