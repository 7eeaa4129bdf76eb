-- The numbers of a class set against the bits of its words.
use Rattle.std.proofs.Common.{◌≡◌, ◌==◌, ℕ, zero, suc, ◌+◌, ◌-◌, ◌*◌, ◌/◌, ◌%◌, ◌^◌, ◌<◌, ◌≤◌, Bool, cond, not, ◌&&◌, ◌||◌, IsTrue, List, [], ◌∷◌, ◌++◌, length, get_or, set, replicate, filter, All, refl, sym, ap, ◌∙◌, ⊎_elim, arith, eq-eqb, ne_eqb, eqb-true, lt-ltb, inl, inr, w64, min, max, subst, length-append}
use Rattle.std.proofs.lemmas.Bool.{cases_eq, cases_lt, false≢true, eqb-false}
use Rattle.std.proofs.lemmas.Bool.Decides.{nat_tests}
use Rattle.std.proofs.lemmas.List.Elements.{filter-append}
use Rattle.std.proofs.lemmas.List.{get_or_past, get_or-replicate, get_or-set_same, get_or-set_other, length-set, length-replicate}
use Rattle.std.proofs.lemmas.Nat.Bits.{bit_at-zero, bit_at-suc, bit_at_lowest, bit_at-lt, bit_at_and, bit_at_or, bit_at_not, bit_at_set_same, bit_at_set_other, bit_at_clear_same, bit_at_clear_other, shr_and_one}
use Rattle.std.specs.Prelude.{bit_and, bit_or}
use Rattle.std.specs.Int.{bit_at, bit_not}
use Rattle.std.specs.List.{range_with_len}
use Rattle.std.specs.Int.RustNames.{count_ones}
use lib.Count.{ones_step}
use native.Mathlib.Nat.{two-pow-succ}
use Rattle.dt_graph.specs.Graph.{has_number, insert_number}
use Rattle.dt_graph.specs.Lawful.{AscendingNumbers}
use Rattle.dt_graph.specs.ClassSet.{has_bit, numbers_below}
use Rattle.dt_graph.proofs.ListMembers.{by_cases, any_from_In, filter_agree_in}
use Rattle.dt_graph.proofs.LinkLists.{has_number-filter, has_number-kept, has_number-placed, all_numbers}
use Rattle.dt_graph.proofs.Ascending.{AscendingNumbers-filter, AscendingNumbers-placed}
use Rattle.dt_graph.proofs.AscendingSets.{same_truth, same_numbers, nothing_listed}

pub AscendingNumbers-range : (a n : ℕ) → AscendingNumbers (range_with_len a n)
AscendingNumbers-range a zero = tt
AscendingNumbers-range a (suc zero) = tt
AscendingNumbers-range a (suc (suc n)) = (lt-ltb a (a + 1) (omega arith), AscendingNumbers-range (a + 1) (suc n))

pub has_number-range : (a n x : ℕ) → a ≤ x → x < a + n → IsTrue (has_number (range_with_len a n) x)
has_number-range a zero x low high = absurd (omega arith)
has_number-range a (suc n) x low high = let rest = has_number-range (a + 1) n x in grind (arith, nat_tests)

pub has_number-range_below : (a n x : ℕ) → IsTrue (has_number (range_with_len a n) x) → x < a + n
has_number-range_below a zero x listed = absurd (false≢true listed)
has_number-range_below a (suc n) x listed = let rest = has_number-range_below (a + 1) n x in grind (arith, nat_tests)

pub AscendingNumbers-below : (limit : ℕ) (words : List ℕ) → AscendingNumbers (numbers_below limit words)
unfolding numbers_below
AscendingNumbers-below limit words = AscendingNumbers-filter (has_bit words) (range_with_len 0 limit) (AscendingNumbers-range 0 limit)

pub in_range_below : (limit : ℕ) (words : List ℕ) → All (λ n. n < limit) (numbers_below limit words)
unfolding numbers_below
in_range_below limit words =
    all_numbers (λ n. n < limit) (numbers_below limit words) (λ n listed.
    let low = has_number-range_below 0 limit n (has_number-filter (has_bit words) (range_with_len 0 limit) n listed).0 in omega arith)

-- no bit is set past the words
pub has_bit_below : (words : List ℕ) (n : ℕ) → IsTrue (has_bit words n) → n < 64 * length words
unfolding has_bit
has_bit_below words n bit = ⊎_elim
    (λ inside. omega arith)
    (λ past.
    let unset : bit_at (get_or words (n / 64) 0) (n % 64) ≡ 0 = rw (get_or_past words (n / 64) 0 past) (bit_at-zero (n % 64)) in
    let is_set = eqb-true (bit_at (get_or words (n / 64) 0) (n % 64)) 1 bit in
    absurd (omega arith))
    (cases_lt (n / 64) (length words))

-- a number is in the set exactly where its bit is set
pub has_number-below : (limit : ℕ) (words : List ℕ) (n : ℕ) → limit ≡ 64 * length words → has_number (numbers_below limit words) n ≡ has_bit words n
unfolding numbers_below
has_number-below limit words n all =
    same_truth (has_number (numbers_below limit words) n) (has_bit words n)
    (λ listed. (has_number-filter (has_bit words) (range_with_len 0 limit) n listed).1)
    (λ bit. has_number-kept (has_bit words) (range_with_len 0 limit) n (has_number-range 0 limit n (omega arith) (let low = has_bit_below words n bit in omega arith)) bit)

-- what the shift and the mask test
pub bit_read : (limit : ℕ) (words numbers : List ℕ) (c : ℕ) → numbers_below limit words ≡ numbers → limit ≡ 64 * length words
    → (bit_and (get_or words (c / 64) 0 / 2 ^ (c % 64)) 1 == 1) ≡ has_number numbers c
unfolding has_bit
bit_read limit words numbers c shown all =
    ap (λ b. b == 1) (shr_and_one (get_or words (c / 64) 0) (c % 64)) ∙ sym (has_number-below limit words c all) ∙ ap (λ ns. has_number ns c) shown

-- the words with no bit
pub none_set : (limit n : ℕ) → limit ≡ 64 * n → numbers_below limit (replicate n 0) ≡ []
unfolding has_bit
none_set limit n all =
    nothing_listed (numbers_below limit (replicate n 0)) (λ k.
    has_number-below limit (replicate n 0) k (omega (arith, all, length-replicate {A = ℕ} n 0))
    ∙ elim (cases_lt (k / 64) n) [
      | inl inside ↦ ap (λ w. bit_at w (k % 64) == 1) (get_or-replicate n (k / 64) 0 0 inside) ∙ ap (λ b. b == 1) (bit_at-zero (k % 64))
      | inr past ↦
          ap (λ w. bit_at w (k % 64) == 1) (get_or_past (replicate n 0) (k / 64) 0 (omega (arith, length-replicate {A = ℕ} n 0))) ∙ ap (λ b. b == 1) (bit_at-zero (k % 64))
    ])

-- ---- one bit

-- a word's bit in the place of the number
abbrev with_bit : ℕ → ℕ → ℕ
with_bit word c = bit_or word (1 * 2 ^ (c % 64) % 2 ^ 64)

abbrev without_bit : ℕ → ℕ → ℕ
without_bit word c = bit_and word (bit_not w64 (1 * 2 ^ (c % 64) % 2 ^ 64))

has_bit-elsewhere : (words : List ℕ) (c word n : ℕ) → (n / 64 ≡ c / 64 → ⊥) → has_bit (set words (c / 64) word) n ≡ has_bit words n
unfolding has_bit
has_bit-elsewhere words c word n other =
    ap (λ w. bit_at w (n % 64) == 1) (get_or-set_other words (c / 64) (n / 64) word 0 other)

has_bit-here : (words : List ℕ) (c word n : ℕ) → c / 64 < length words → n / 64 ≡ c / 64 → has_bit (set words (c / 64) word) n ≡ (bit_at word (n % 64) == 1)
unfolding has_bit
has_bit-here words c word n inside here =
    ap (λ k. bit_at (get_or (set words (c / 64) word) k 0) (n % 64) == 1) here
    ∙ ap (λ w. bit_at w (n % 64) == 1) (get_or-set_same words (c / 64) word 0 inside)

-- the bit of the number as its word has it
has_bit-word : (words : List ℕ) (c n : ℕ) → n / 64 ≡ c / 64 → has_bit words n ≡ (bit_at (get_or words (c / 64) 0) (n % 64) == 1)
unfolding has_bit
has_bit-word words c n here = ap (λ k. bit_at (get_or words k 0) (n % 64) == 1) here

-- a word that differs from the one before it in the place of the number alone
bit_put : (words : List ℕ) (c n new bit : ℕ) → c / 64 < length words → bit_at new (c % 64) ≡ bit
    → ((i : ℕ) → i < 64 → (i ≡ c % 64 → ⊥) → bit_at new i ≡ bit_at (get_or words (c / 64) 0) i)
    → has_bit (set words (c / 64) new) n ≡ cond (c == n) (bit == 1) (has_bit words n)
bit_put words c n new bit inside own others =
    elim (cases_eq c n) [
      | inl same ↦ rw (eq-eqb c n same) (has_bit-here words c new n inside (omega arith)
          ∙ ap (λ k. bit_at new (k % 64) == 1) (sym same) ∙ ap (λ b. b == 1) own)
      | inr other ↦ rw (ne_eqb c n other) (elim (cases_eq (n / 64) (c / 64)) [
        | inl here ↦
            has_bit-here words c new n inside here
            ∙ ap (λ b. b == 1) (others (n % 64) (omega arith) (λ e. other (omega arith))) ∙ sym (has_bit-word words c n here)
        | inr elsewhere ↦ has_bit-elsewhere words c new n elsewhere
      ])
    ]

has_bit-set : (words : List ℕ) (c n : ℕ) → c / 64 < length words
    → has_bit (set words (c / 64) (with_bit (get_or words (c / 64) 0) c)) n ≡ ((c == n) || has_bit words n)
has_bit-set words c n inside =
    let word : ℕ = get_or words (c / 64) 0 in
    bit_put words c n (with_bit word c) 1 inside (bit_at_set_same w64 word (c % 64) (omega arith))
    (λ i small other. bit_at_set_other w64 word (c % 64) (omega arith) i other) ∙ grind arith

has_bit-clear : (words : List ℕ) (c n : ℕ) → c / 64 < length words
    → has_bit (set words (c / 64) (without_bit (get_or words (c / 64) 0) c)) n ≡ (has_bit words n && not (n == c))
has_bit-clear words c n inside =
    let word : ℕ = get_or words (c / 64) 0 in
    bit_put words c n (without_bit word c) 0 inside (bit_at_clear_same w64 word (c % 64) (omega arith))
    (λ i small other. bit_at_clear_other w64 word (c % 64) (omega arith) i small other) ∙ grind (arith, nat_tests)

pub inserted : (limit : ℕ) (words numbers : List ℕ) (c : ℕ) → numbers_below limit words ≡ numbers → limit ≡ 64 * length words → c < limit
    → numbers_below limit (set words (c / 64) (with_bit (get_or words (c / 64) 0) c)) ≡ insert_number c numbers
inserted limit words numbers c shown all inside =
    let word : ℕ = with_bit (get_or words (c / 64) 0) c in
    same_numbers (numbers_below limit (set words (c / 64) word)) (insert_number c numbers)
    (AscendingNumbers-below limit (set words (c / 64) word))
    (AscendingNumbers-placed c numbers (subst AscendingNumbers shown (AscendingNumbers-below limit words)))
    (λ n.
    has_number-below limit (set words (c / 64) word) n (omega (arith, all, length-set words (c / 64) word))
    ∙ has_bit-set words c n (omega arith)
    ∙ ap (λ t. (c == n) || t) (sym (has_number-below limit words n all) ∙ ap (λ ns. has_number ns n) shown)
    ∙ sym (has_number-placed c numbers n))

pub removed : (limit : ℕ) (words numbers : List ℕ) (c n : ℕ) → numbers_below limit words ≡ numbers → limit ≡ 64 * length words → c < limit
    → has_number (numbers_below limit (set words (c / 64) (without_bit (get_or words (c / 64) 0) c))) n ≡ (has_number numbers n && not (n == c))
removed limit words numbers c n shown all inside =
    let word : ℕ = without_bit (get_or words (c / 64) 0) c in
    has_number-below limit (set words (c / 64) word) n (omega (arith, all, length-set words (c / 64) word))
    ∙ has_bit-clear words c n (omega arith)
    ∙ ap (λ t. t && not (n == c)) (sym (has_number-below limit words n all) ∙ ap (λ ns. has_number ns n) shown)

-- ---- all words

bit_either : (a b : ℕ) → a < 2 → b < 2 → (max a b == 1) ≡ ((a == 1) || (b == 1))
bit_either a b l m = grind (arith, nat_tests)

bit_left : (a b : ℕ) → a < 2 → b < 2 → (min a (1 - b) == 1) ≡ ((a == 1) && not (b == 1))
bit_left a b l m = grind (arith, nat_tests)

-- a set over each of three lists of words of one length
pub record AreSets (limit : ℕ) (made first second first_numbers second_numbers : List ℕ) : Type 0 where
  pub first_shown : numbers_below limit first ≡ first_numbers
  pub second_shown : numbers_below limit second ≡ second_numbers
  pub made_all : limit ≡ 64 * length made
  pub first_all : limit ≡ 64 * length first
  pub second_all : limit ≡ 64 * length second

-- past the words there is nothing on either side
each_made : (op : ℕ → ℕ → ℕ) (limit : ℕ) (made first second first_numbers second_numbers : List ℕ) → op 0 0 ≡ 0 → AreSets limit made first second first_numbers second_numbers
    → ((j : ℕ) → j < length made → get_or made j 0 ≡ op (get_or first j 0) (get_or second j 0))
    → (j : ℕ) → get_or made j 0 ≡ op (get_or first j 0) (get_or second j 0)
each_made op limit made first second first_numbers second_numbers none sets each j =
    let made_all = sets.made_all in
    let first_all = sets.first_all in
    let second_all = sets.second_all in
    elim (cases_lt j (length made)) [
      | inl inside ↦ each j inside
      | inr past ↦
          get_or_past made j 0 past
          ∙ sym none
          ∙ ap (λ w. op w 0) (sym (get_or_past first j 0 (omega arith)))
          ∙ ap (op (get_or first j 0)) (sym (get_or_past second j 0 (omega arith)))
    ]

words_fit : (made second : List ℕ) (j : ℕ) → length made ≡ length second → ((i : ℕ) → i < length made → get_or second i 0 < 2 ^ 64) → get_or second j 0 < 2 ^ 64
words_fit made second j same fits =
    elim (cases_lt j (length made)) [
      | inl inside ↦ fits j inside
      | inr past ↦ let none = get_or_past second j 0 (omega arith) in omega arith
    ]

has_number-shown : (limit : ℕ) (words numbers : List ℕ) (n : ℕ) → numbers_below limit words ≡ numbers → limit ≡ 64 * length words → has_bit words n ≡ has_number numbers n
has_number-shown limit words numbers n shown all = sym (has_number-below limit words n all) ∙ ap (λ ns. has_number ns n) shown

-- what an operation of words says of sets, where it says so of bits
combined : (op : ℕ → ℕ → ℕ) (told : Bool → Bool → Bool) (limit : ℕ) (made first second first_numbers second_numbers : List ℕ) → op 0 0 ≡ 0 → AreSets limit made first second first_numbers second_numbers
    → ((j : ℕ) → j < length made → get_or made j 0 ≡ op (get_or first j 0) (get_or second j 0))
    → ((j i : ℕ) → i < 64 → (bit_at (op (get_or first j 0) (get_or second j 0)) i == 1) ≡ told (bit_at (get_or first j 0) i == 1) (bit_at (get_or second j 0) i == 1))
    → (n : ℕ) → has_number (numbers_below limit made) n ≡ told (has_number first_numbers n) (has_number second_numbers n)
unfolding has_bit
combined op told limit made first second first_numbers second_numbers none sets each bits n =
    has_number-below limit made n sets.made_all
    ∙ ap (λ w. bit_at w (n % 64) == 1) (each_made op limit made first second first_numbers second_numbers none sets each (n / 64))
    ∙ bits (n / 64) (n % 64) (omega arith)
    ∙ ap (λ t. told t (bit_at (get_or second (n / 64) 0) (n % 64) == 1)) (has_number-shown limit first first_numbers n sets.first_shown sets.first_all)
    ∙ ap (told (has_number first_numbers n)) (has_number-shown limit second second_numbers n sets.second_shown sets.second_all)

-- each word is the `or` of the two
pub joined : (limit : ℕ) (made first second first_numbers second_numbers : List ℕ) → AreSets limit made first second first_numbers second_numbers
    → ((j : ℕ) → j < length made → get_or made j 0 ≡ bit_or (get_or first j 0) (get_or second j 0))
    → (n : ℕ) → has_number (numbers_below limit made) n ≡ (has_number first_numbers n || has_number second_numbers n)
joined limit made first second first_numbers second_numbers sets each =
    combined bit_or (λ a b. a || b) limit made first second first_numbers second_numbers refl sets each (λ j i small.
    let a = get_or first j 0 in let b = get_or second j 0 in
    ap (λ x. x == 1) (bit_at_or a b i) ∙ bit_either (bit_at a i) (bit_at b i) (bit_at-lt a i) (bit_at-lt b i))

-- each word is the first `and` the complement of the second
pub left_over : (limit : ℕ) (made first second first_numbers second_numbers : List ℕ) → AreSets limit made first second first_numbers second_numbers
    → ((j : ℕ) → j < length made → get_or second j 0 < 2 ^ 64)
    → ((j : ℕ) → j < length made → get_or made j 0 ≡ bit_and (get_or first j 0) (bit_not w64 (get_or second j 0)))
    → (n : ℕ) → has_number (numbers_below limit made) n ≡ (has_number first_numbers n && not (has_number second_numbers n))
left_over limit made first second first_numbers second_numbers sets fits each =
    combined (λ x y. bit_and x (bit_not w64 y)) (λ a b. a && not b) limit made first second first_numbers second_numbers refl sets each (λ j i small.
    let a = get_or first j 0 in let b = get_or second j 0 in
    ap (λ x. x == 1) (bit_at_and a (bit_not w64 b) i ∙ ap (min (bit_at a i)) (bit_at_not w64 b i
    (words_fit made second j (omega (arith, sets.made_all, sets.second_all)) fits) small))
    ∙ bit_left (bit_at a i) (bit_at b i) (bit_at-lt a i) (bit_at-lt b i))

-- ---- how many

pub range-split : (a m n q : ℕ) → q ≡ m + n → range_with_len a q ≡ range_with_len a m ++ range_with_len (a + m) n
range-split a zero n q all = ap (range_with_len a) (omega arith) ∙ ap (λ k. range_with_len k n) (omega arith)
range-split a (suc m) n zero all = absurd (omega arith)
range-split a (suc m) n (suc q) all = ap (λ ns. a ∷ ns) (range-split (a + 1) m n q (omega arith)
    ∙ ap (λ k. range_with_len (a + 1) m ++ range_with_len k n) (omega arith))

no_ones : 0 ≡ count_ones 0
unfolding count_ones
no_ones = refl

-- a number has as many set bits as places in which a bit is set
ones_counted : (test : ℕ → Bool) (m k word : ℕ) → word < 2 ^ m → ((i : ℕ) → i < m → test (k + i) ≡ (bit_at word i == 1)) → length (filter test (range_with_len k m)) ≡ count_ones word
ones_counted test zero k word fits each =
    let none : 0 ≡ word = omega arith in no_ones ∙ ap count_ones none
ones_counted test (suc m) k word fits each =
    let rest = ones_counted test m (k + 1) (word / 2) (omega (arith, two-pow-succ m)) (λ i inside.
    ap test (omega arith) ∙ each (suc i) (omega arith) ∙ ap (λ b. b == 1) (bit_at-suc word i)) in
    let lowest : test k ≡ (word % 2 == 1) = ap test (omega arith) ∙ each 0 (omega arith) ∙ ap (λ b. b == 1) (bit_at_lowest word) in
    by_cases (test k)
    (λ passes. let odd = eqb-true (word % 2) 1 (sym lowest ∙ passes) in rw passes (omega (arith, rest, odd, ones_step word)))
    (λ fails. let even = eqb-false (word % 2) 1 (sym lowest ∙ fails) in rw fails (omega (arith, rest, even, ones_step word)))

-- the numbers of the words before one, and those of that word
pub counted : (bits limit more i : ℕ) (words : List ℕ) → bits ≡ 64 → limit ≡ 64 * i → more ≡ limit + bits → get_or words i 0 < 2 ^ bits
    → length (numbers_below more words) ≡ length (numbers_below limit words) + count_ones (get_or words i 0)
unfolding numbers_below has_bit
counted bits limit more i words all before after fits =
    let word : ℕ = get_or words i 0 in
    ap length (ap (filter (has_bit words)) (range-split 0 limit bits more after)
    ∙ filter-append (has_bit words) (range_with_len 0 limit) (range_with_len (0 + limit) bits))
    ∙ length-append (numbers_below limit words) (filter (has_bit words) (range_with_len (0 + limit) bits))
    ∙ ap (λ k. length (numbers_below limit words) + k)
    (ones_counted (has_bit words) bits (0 + limit) word fits (λ j inside.
    let place : (0 + limit + j) / 64 ≡ i = omega arith in
    let bit : (0 + limit + j) % 64 ≡ j = omega arith in
    ap (λ w. bit_at (get_or words w 0) ((0 + limit + j) % 64) == 1) place ∙ ap (λ b. bit_at word b == 1) bit))

pub none_counted : (words : List ℕ) → length (numbers_below 0 words) ≡ 0
unfolding numbers_below
none_counted words = refl

same_in_range : (first second : ℕ → Bool) (a n : ℕ) → ((k : ℕ) → k < a + n → first k ≡ second k) → filter first (range_with_len a n) ≡ filter second (range_with_len a n)
same_in_range first second a n same = filter_agree_in first second (range_with_len a n)
    (λ k i. same k (has_number-range_below a n k (any_from_In (λ m. m == k) (range_with_len a n) k i (eq-eqb k k refl))))

-- a word that changes, changes nothing below it
below_changed : (limit i word : ℕ) (words : List ℕ) → limit ≡ 64 * i → numbers_below limit (set words i word) ≡ numbers_below limit words
unfolding numbers_below has_bit
below_changed limit i word words all =
    same_in_range (has_bit (set words i word)) (has_bit words) 0 limit (λ k inside.
    ap (λ w. bit_at w (k % 64) == 1) (get_or-set_other words i (k / 64) word 0 (λ e. omega arith)))

-- the numbers of the words before one, and those of that word where it changes
pub counted_changed : (bits limit more i word count : ℕ) (words : List ℕ) → bits ≡ 64 → limit ≡ 64 * i → more ≡ limit + bits → i < length words → word < 2 ^ bits
    → count ≡ length (numbers_below limit words) → count + count_ones word ≡ length (numbers_below more (set words i word))
counted_changed bits limit more i word count words all before after inside fits so_far =
    let here : get_or (set words i word) i 0 ≡ word = get_or-set_same words i word 0 inside in
    ap (λ n. n + count_ones word) (so_far ∙ ap length (sym (below_changed limit i word words before)))
    ∙ ap (λ w. length (numbers_below limit (set words i word)) + count_ones w) (sym here)
    ∙ sym (counted bits limit more i (set words i word) all before after (subst (λ w. w < 2 ^ bits) (sym here) fits))
