-- Nodes below which all is 0.
use Rattle.std.proofs.Common.{◌≡◌, ◌≢◌, ℕ, zero, suc, ◌+◌, ◌-◌, ◌<◌, ◌≤◌, ◌==◌, ◌&&◌, Bool, true, false, get_or, nat_lt, if◌then◌else◌, refl, sym, ap, ◌∙◌, arith, eqb-true, eq-eqb, true≢false}
use native.Mathlib.Decide.{ℕ_discrete}
use Rattle.std.specs.List.{list_all, range_with_len}
use Rattle.std.specs.Ordering.{nat_cmp}
use Rattle.std.specs.FinMap.{empty, get-empty}
use Rattle.std.proofs.Common.{unwrap_or}
use Rattle.dt_pages.specs.Reading.{addresses}
use Rattle.dt_pages.specs.Image.{look_up}
use Rattle.dt_pages.specs.Numbering.{Numbering, child, IsNumbering}
use Rattle.dt_pages.specs.Paged.{Paged, numbering}
use Rattle.dt_pages.specs.Drawing.{is_blank_below}

pass : (test : ℕ → Bool) (from count : ℕ) → ((q : ℕ) → from ≤ q → q < from + count → test q ≡ true) → list_all test (range_with_len from count) ≡ true
pass test from zero each = refl
pass test from (suc count) each =
    ap (λ b. b && list_all test (range_with_len (from + 1) count)) (each from (omega arith) (omega arith))
    ∙ pass test (from + 1) count (λ q low high. each q (omega (arith, low)) (omega (arith, high)))

-- the first of these that fails the test
first_failing : (test : ℕ → Bool) (from count : ℕ) → list_all test (range_with_len from count) ≡ false
    → (q : ℕ) × (from ≤ q) × (q < from + count) × (test q ≡ false)
first_failing test from zero none = absurd (true≢false none)
first_failing test from (suc count) some = go (λ failed. first_failing test (from + 1) count failed) (test from) refl some
  where
    later : (q : ℕ) × (from + 1 ≤ q) × (q < from + 1 + count) × (test q ≡ false) → (q : ℕ) × (from ≤ q) × (q < from + suc count) × (test q ≡ false)
    later (q, low, high, is) = (q, omega (arith, low), omega (arith, high), is)

    go : (list_all test (range_with_len (from + 1) count) ≡ false → (q : ℕ) × (from + 1 ≤ q) × (q < from + 1 + count) × (test q ≡ false))
        → (b : Bool) → test from ≡ b → (b && list_all test (range_with_len (from + 1) count)) ≡ false → (q : ℕ) × (from ≤ q) × (q < from + suc count) × (test q ≡ false)
    go rest false is failed = (from, omega arith, omega arith, is)
    go rest true is failed = later (rest failed)

each : (test : ℕ → Bool) (from count : ℕ) → list_all test (range_with_len from count) ≡ true → (q : ℕ) → from ≤ q → q < from + count → test q ≡ true
each test from zero is q low high = absurd (omega (arith, low, high))
each test from (suc count) is q low high =
    go (λ rest other. each test (from + 1) count rest q (omega (arith, low, other)) (omega (arith, high))) (test from) refl is
  where
    go : (list_all test (range_with_len (from + 1) count) ≡ true → q ≢ from → test q ≡ true)
        → (b : Bool) → test from ≡ b → (b && list_all test (range_with_len (from + 1) count)) ≡ true → test q ≡ true
    go later true here rest = elim (ℕ_discrete q from) [ yes same ↦ ap test same ∙ here | no other ↦ later rest other ]
    go later false here rest = absurd (true≢false (sym rest))

module _ (numbers : Numbering) (node : ℕ) where
  pub blank : ((at : ℕ) → at < 512 → numbers (child node at) ≡ 0) → is_blank_below numbers node ≡ true
  unfolding is_blank_below
  blank zeros = pass (λ at. numbers (child node at) == 0) 0 512 (λ q low high. eq-eqb (numbers (child node q)) 0 (zeros q (omega (arith, high))))

  pub some_below : is_blank_below numbers node ≡ false → (at : ℕ) × (at < 512) × (numbers (child node at) ≢ 0)
  unfolding is_blank_below
  some_below some =
      let found = first_failing (λ at. numbers (child node at) == 0) 0 512 some in
      (found.0, omega (arith, found.2), λ none. true≢false (sym (eq-eqb (numbers (child node found.0)) 0 none) ∙ found.3))

  pub all_blank : is_blank_below numbers node ≡ true → (at : ℕ) → at < 512 → numbers (child node at) ≡ 0
  unfolding is_blank_below
  all_blank is at below = eqb-true (numbers (child node at)) 0 (each (λ q. numbers (child node q) == 0) 0 512 is at (omega arith) (omega (arith, below)))

  pub not_blank : (at : ℕ) → at < 512 → numbers (child node at) ≢ 0 → is_blank_below numbers node ≡ false
  not_blank at below some = go (is_blank_below numbers node) refl
    where
      go : (b : Bool) → is_blank_below numbers node ≡ b → b ≡ false
      go false is = refl
      go true is = absurd (some (all_blank is at below))

-- where two readings are the same below a node, it is blank in both or in neither
pub blank_same : (numbers others : Numbering) (node : ℕ) → ((at : ℕ) → at < 512 → numbers (child node at) ≡ others (child node at))
    → is_blank_below numbers node ≡ is_blank_below others node
blank_same numbers others node same = go (is_blank_below others node) refl
  where
    go : (b : Bool) → is_blank_below others node ≡ b → is_blank_below numbers node ≡ b
    go true is = blank numbers node (λ at below. same at below ∙ all_blank others node is at below)
    go false is = let found = some_below others node is in
        not_blank numbers node found.0 found.1 (λ none. found.2 (sym (same found.0 found.1) ∙ none))

-- ---- the tree in which nothing is set

pub all_zero : (paged : Paged) → paged.image ≡ empty → ((at : ℕ) → get_or paged.page_numbers at 0 ≡ 0) → (position : ℕ) → numbering paged position ≡ 0
all_zero paged is zeros position = go (nat_lt position addresses)
  where
    go : (b : Bool) → (if b then look_up paged.image position else get_or paged.page_numbers (position - addresses) 0) ≡ 0
    go true = ap (λ image. look_up image position) is ∙ ap (λ word. unwrap_or word 0) (get-empty nat_cmp position)
    go false = zeros (position - addresses)

pub zero_numbering : (paged : Paged) → paged.image ≡ empty → ((at : ℕ) → get_or paged.page_numbers at 0 ≡ 0) → IsNumbering (numbering paged)
zero_numbering paged is zeros = record {
  blank = λ node a_node. (λ none at below. all_zero paged is zeros (child node at), λ none. all_zero paged is zeros node);
  once = λ node other a b some same. absurd (some (all_zero paged is zeros node));
  in_range = λ node a_node. let none = all_zero paged is zeros node in omega (arith, none);
}
