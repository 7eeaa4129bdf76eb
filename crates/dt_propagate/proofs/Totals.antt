-- Cells and rows, as they are counted selector by selector.
use Rattle.std.proofs.Common.{◌≡◌, ◌==◌, ℕ, zero, suc, ◌+◌, ◌-◌, ◌<◌, ◌≤◌, true, false, IsTrue, List, [], ◌∷◌, ◌++◌, length, Option, None, Some, ⊎_elim, refl, sym, ap, ◌∙◌, arith, eqb-true, eq-eqb}
use Rattle.std.specs.Prelude.{nat_lt, nat_le}
use Rattle.std.specs.Option.{option_map_or}
use Rattle.std.specs.List.{list_any, range_with_len}
use Rattle.std.proofs.lemmas.Bool.{false≢true, or_left, or_right, or_cases, false_from_ne_true}
use Rattle.std.proofs.lemmas.Bool.Decides.{nat_tests}
use Rattle.dt_graph.specs.Graph.{has_number}
use Rattle.dt_graph.specs.Lawful.{AscendingNumbers}
use Rattle.dt_graph.proofs.AscendingSets.{ascending_tail}
use Rattle.dt_graph.proofs.ListMembers.{by_cases}
use Rattle.dt_selectors.proofs.Arities.{live_in_range}
use Rattle.dt_definitions.specs.Lawful.{Lawful}
use Rattle.dt_definitions.specs.Program.{Definition, Program, arity_of, definitions_of}
use Rattle.dt_scratch.specs.Query.{Query}
use Rattle.dt_propagate.specs.Begun.{is_begun_query, told_begun, told_cell, told_row, takes_more, arity_or_none, row_lengths, up_to}
use Rattle.dt_propagate.specs.Boxes.{in_turn}
use Rattle.dt_propagate.specs.GoneThrough.{all_arities, all_classes, told_after, told_of}
use Rattle.dt_propagate.specs.Touched.{takes}
use Rattle.dt_propagate.proofs.Boxes.{first_lower}
use Rattle.dt_propagate.proofs.BoxSizes.{length-both}
use Rattle.dt_propagate.proofs.Begun.{up_to_some, up_to_none}
use Rattle.dt_propagate.proofs.GoneThrough.{arities_ascend, arity_listed}
use Rattle.dt_propagate.proofs.Touching.{turn_more}

-- ---- lists told in turn

module _ {T : Type 0} where
  turns_agree : (f g : ℕ → List T) → ((c : ℕ) → f c ≡ g c) → (cs : List ℕ) → in_turn f cs ≡ in_turn g cs
  turns_agree f g same [] = refl
  turns_agree f g same (c ∷ cs) = rw (same c, turns_agree f g same cs) refl

  none_in_turn : (f : ℕ → List T) (cs : List ℕ) → ((c : ℕ) → IsTrue (has_number cs c) → f c ≡ []) → in_turn f cs ≡ []
  none_in_turn f [] none = refl
  none_in_turn f (c ∷ cs) none =
      rw (none c (or_left (c == c) (has_number cs c) (eq-eqb c c refl)))
      (none_in_turn f cs (λ d i. none d (or_right (c == d) (has_number cs d) i)))

  -- what one of the numbers tells, where no other tells anything
  only_one : (f : ℕ → List T) (a : ℕ) (cs : List ℕ) → AscendingNumbers cs → IsTrue (has_number cs a) → ((k : ℕ) → (k ≡ a → ⊥) → f k ≡ []) →
      in_turn f cs ≡ f a
  only_one f a [] ascend there none = absurd (false≢true there)
  only_one f a (c ∷ cs) ascend there none = by_cases (c == a)
      (λ t.
      let e : c ≡ a = eqb-true c a t in
      ap (λ xs. f c ++ xs) (none_in_turn f cs (λ d i.
      let low = first_lower c cs ascend d i in
      none d (λ same. let r : nat_lt c d ≡ false = grind (arith, nat_tests, e, same) in false≢true (sym r ∙ low))))
      ∙ append-nil-back (f c) ∙ ap f e)
      (λ u.
      let other : c ≡ a → ⊥ = λ e. false≢true (sym u ∙ eq-eqb c a e) in
      rw (none c other) (only_one f a cs (ascending_tail c cs ascend)
      (⊎_elim (λ t. absurd (false≢true (sym u ∙ t))) (λ later. later) (or_cases (c == a) (has_number cs a) there)) none))
    where
      append-nil-back : (xs : List T) → xs ++ [] ≡ xs
      append-nil-back [] = refl
      append-nil-back (x ∷ xs) = ap (λ ys. x ∷ ys) (append-nil-back xs)

  after_agree : (first second : Query → List T) (selector k : ℕ) (prefix : List ℕ) →
      ((query : Query) → query.selector ≡ selector → length query.classes ≡ k + length prefix → first query ≡ second query) →
      told_after first selector k prefix ≡ told_after second selector k prefix
  after_agree first second selector zero prefix same =
      same (record { selector = selector; classes = prefix }) refl (let s : length prefix ≡ 0 + length prefix = omega arith in s)
  after_agree first second selector (suc k) prefix same =
      turns_agree (λ class. told_after first selector k (prefix ++ class ∷ [])) (λ class. told_after second selector k (prefix ++ class ∷ []))
      (λ class. after_agree first second selector k (prefix ++ class ∷ []) (λ query e l.
      let more = length-both prefix (class ∷ []) in same query e (omega (arith, more, l)))) all_classes

  nothing_after : (selector k : ℕ) (prefix : List ℕ) → told_after {T = T} (λ query. []) selector k prefix ≡ []
  nothing_after selector zero prefix = refl
  nothing_after selector (suc k) prefix =
      none_in_turn (λ class. told_after (λ query. []) selector k (prefix ++ class ∷ [])) all_classes
      (λ class i. nothing_after selector k (prefix ++ class ∷ []))

  turns_le : (f : ℕ → List T) (a n m : ℕ) → n ≤ m → length (in_turn f (range_with_len a n)) ≤ length (in_turn f (range_with_len a m))
  turns_le f a n zero le = let e : n ≡ 0 = omega (arith, le) in ap-le (ap (λ k. length (in_turn f (range_with_len a k))) e)
    where
      ap-le : {x y : ℕ} → x ≡ y → x ≤ y
      ap-le e = omega (arith, e)
  turns_le f a n (suc m) le = by_cases (nat_le n m)
      (λ t.
      let low : n ≤ m = grind (arith, nat_tests, t) in
      let before = turns_le f a n m low in
      let e = ap length (turn_more f a m (suc m) (let s : suc m ≡ m + 1 = omega arith in s)) in
      let both = length-both (in_turn f (range_with_len a m)) (f (a + m)) in
      omega (arith, before, e, both))
      (λ u.
      let same : n ≡ suc m = grind (arith, nat_tests, u, le) in
      let e = ap (λ k. length (in_turn f (range_with_len a k))) same in omega (arith, e))

  -- one more summand, and one too many
  pub one_more : (f : ℕ → List T) (a n next at most count more : ℕ) → next ≡ n + 1 → at ≡ a + n → count ≤ most →
      count ≡ length (in_turn f (range_with_len a n)) → up_to (most - count) (length (f at)) ≡ Some more →
      (count + more ≤ most) × (count + more ≡ length (in_turn f (range_with_len a next)))
  one_more f a n next at most count more e i few so_far up =
      let h = up_to_some (most - count) (length (f at)) more up in
      let t = ap length (turn_more f a n next e) in
      let both = length-both (in_turn f (range_with_len a n)) (f (a + n)) in
      let s = ap (λ k. length (f k)) i in
      (omega (arith, h.0, h.1, few), omega (arith, h.0, t, both, s, so_far))

  pub one_too_many : (f : ℕ → List T) (a n all at most count : ℕ) → n < all → at ≡ a + n → count ≤ most →
      count ≡ length (in_turn f (range_with_len a n)) → up_to (most - count) (length (f at)) ≡ None →
      most < length (in_turn f (range_with_len a all))
  one_too_many f a n all at most count low i few so_far up =
      let h = up_to_none (most - count) (length (f at)) up in
      let t = ap length (turn_more f a n (n + 1) refl) in
      let both = length-both (in_turn f (range_with_len a n)) (f (a + n)) in
      let s = ap (λ k. length (f k)) i in
      let le = turns_le f a (n + 1) all (omega (arith, low)) in
      omega (arith, h, t, both, s, so_far, few, le)

-- ---- the cells of a selector

cell_taken : (program : Program) (query : Query) → takes program query.selector (length query.classes) ≡ true → told_cell program query ≡ told_begun program query
cell_taken program query t = rw t refl

cell_not_taken : (program : Program) (query : Query) → takes program query.selector (length query.classes) ≡ false → told_cell program query ≡ []
cell_not_taken program query f = rw f refl

takes_is : (program : Program) (selector a k : ℕ) → arity_of program selector ≡ Some a → takes program selector k ≡ (a == k)
takes_is program selector a k e = rw e refl

pub cells_are : (program : Program) (selector a : ℕ) → arity_of program selector ≡ Some a → 0 < a → a ≤ 4 →
    told_of (told_cell program) all_arities selector ≡ told_after (told_begun program) selector a []
cells_are program selector a e some few =
    only_one (λ arity. told_after (told_cell program) selector arity []) a all_arities arities_ascend (arity_listed a some few)
    (λ k other.
    after_agree (told_cell program) (λ query. []) selector k [] (λ query s l.
    let long : length query.classes ≡ k = omega (arith, l) in
    cell_not_taken program query (ap (λ n. takes program n (length query.classes)) s ∙ ap (takes program selector) long
    ∙ takes_is program selector a k e ∙ false_from_ne_true (a == k) (λ t. other (sym (eqb-true a k t)))))
    ∙ nothing_after selector k [])
    ∙ after_agree (told_cell program) (told_begun program) selector a [] (λ query s l.
    let long : length query.classes ≡ a = omega (arith, l) in
    cell_taken program query (ap (λ n. takes program n (length query.classes)) s ∙ ap (takes program selector) long
    ∙ takes_is program selector a a e ∙ eq-eqb a a refl))

pub no_cells : (program : Program) (selector : ℕ) → arity_of program selector ≡ None → told_of (told_cell program) all_arities selector ≡ []
no_cells program selector none =
    none_in_turn (λ arity. told_after (told_cell program) selector arity []) all_arities (λ k i.
    after_agree (told_cell program) (λ query. []) selector k [] (λ query s l.
    cell_not_taken program query (ap (λ n. takes program n (length query.classes)) s ∙ not_taken (length query.classes)))
    ∙ nothing_after selector k [])
  where
    not_taken : (k : ℕ) → takes program selector k ≡ false
    not_taken k = rw none refl

-- ---- its rows

row_taken : (program : Program) (query : Query) → takes_more program query.selector (length query.classes) ≡ true → told_row program query ≡ told_begun program query
row_taken program query t = rw t refl

row_not_taken : (program : Program) (query : Query) → takes_more program query.selector (length query.classes) ≡ false → told_row program query ≡ []
row_not_taken program query f = rw f refl

more_is : (program : Program) (selector k : ℕ) → takes_more program selector k ≡ nat_lt k (arity_or_none program selector)
more_is program selector k = by_arity (arity_of program selector)
  where
    by_arity : (arity : Option ℕ) → option_map_or (λ a. nat_lt k a) arity false ≡ nat_lt k (option_map_or (λ a. a) arity 0)
    by_arity None = grind (arith, nat_tests)
    by_arity (Some a) = refl

module _ (program : Program) (selector : ℕ) where
  abbrev row_at : ℕ → List Query
  row_at k = told_after (told_row program) selector k []

  abbrev begun_at : ℕ → List Query
  begun_at k = told_after (told_begun program) selector k []

  row_is : (k : ℕ) → nat_lt k (arity_or_none program selector) ≡ true → row_at k ≡ begun_at k
  row_is k t = after_agree (told_row program) (told_begun program) selector k [] (λ query s l.
      let long : length query.classes ≡ k = omega (arith, l) in
      row_taken program query (ap (λ n. takes_more program n (length query.classes)) s ∙ ap (takes_more program selector) long ∙ more_is program selector k ∙ t))

  no_row : (k : ℕ) → nat_lt k (arity_or_none program selector) ≡ false → row_at k ≡ []
  no_row k f = after_agree (told_row program) (λ query. []) selector k [] (λ query s l.
      let long : length query.classes ≡ k = omega (arith, l) in
      row_not_taken program query (ap (λ n. takes_more program n (length query.classes)) s ∙ ap (takes_more program selector) long ∙ more_is program selector k ∙ f))
      ∙ nothing_after selector k []

  -- the first so many of the lengths
  firsts : (f g : ℕ → List Query) (from n m : ℕ) → ((k : ℕ) → from ≤ k → k < from + n → f k ≡ g k) → ((k : ℕ) → from + n ≤ k → f k ≡ []) → n ≤ m →
      in_turn f (range_with_len from m) ≡ in_turn g (range_with_len from n)
  firsts f g from zero zero same none le = refl
  firsts f g from (suc n) zero same none le = absurd (omega (arith, le))
  firsts f g from zero (suc m) same none le =
      rw (none from (omega arith)) (firsts f g (from + 1) zero m (λ k low high. absurd (omega (arith, low, high))) (λ k low. none k (omega (arith, low))) (omega arith))
  firsts f g from (suc n) (suc m) same none le =
      let here = same from (omega arith) (omega arith) in
      let rest = firsts f g (from + 1) n m (λ k low high. same k (omega (arith, low)) (omega (arith, high))) (λ k low. none k (omega (arith, low))) (omega (arith, le)) in
      rw (here, rest) refl

  lengths : told_of (told_row program) row_lengths selector ≡ in_turn row_at (range_with_len 0 4)
  unfolding row_lengths
  lengths = refl

  pub rows_are : (n : ℕ) → n ≡ arity_or_none program selector → n ≤ 4 →
      told_of (told_row program) row_lengths selector ≡ in_turn begun_at (range_with_len 0 n)
  rows_are n e few =
      lengths ∙ firsts row_at begun_at 0 n 4
      (λ k low high. row_is k (let t : nat_lt k (arity_or_none program selector) ≡ true = grind (arith, nat_tests, high, e) in t))
      (λ k low. no_row k (let f : nat_lt k (arity_or_none program selector) ≡ false = grind (arith, nat_tests, low, e) in f)) few

module _ (program : Program) (lawful : Lawful program) (selector : ℕ) where
  pub cells_none : arity_or_none program selector ≡ 0 → told_of (told_cell program) all_arities selector ≡ []
  cells_none zero_is = by_option (arity_of program selector) refl
    where
      by_option : (o : Option ℕ) → arity_of program selector ≡ o → told_of (told_cell program) all_arities selector ≡ []
      by_option None e = no_cells program selector e
      by_option (Some a) e =
          let z : a ≡ 0 = sym (ap (λ o. option_map_or (λ n. n) o 0) e) ∙ zero_is in
          let range = live_in_range program.selectors lawful.selectors selector a e in
          absurd (omega (arith, z, range.1))

  pub cells_some : (a : ℕ) → a ≡ arity_or_none program selector → (a ≡ 0 → ⊥) →
      told_of (told_cell program) all_arities selector ≡ told_after (told_begun program) selector a []
  cells_some a is some = by_option (arity_of program selector) refl
    where
      by_option : (o : Option ℕ) → arity_of program selector ≡ o →
          told_of (told_cell program) all_arities selector ≡ told_after (told_begun program) selector a []
      by_option None e = absurd (some (is ∙ ap (λ o. option_map_or (λ n. n) o 0) e))
      by_option (Some b) e =
          let same : b ≡ a = sym (ap (λ o. option_map_or (λ n. n) o 0) e) ∙ sym is in
          let range = live_in_range program.selectors lawful.selectors selector b e in
          cells_are program selector b e range.1 range.2 ∙ ap (λ n. told_after (told_begun program) selector n []) same

-- the list with no class begins where there is a definition
pub none_alone : (program : Program) (selector : ℕ) → definitions_of program selector ≡ [] →
    length (told_after (told_begun program) selector 0 []) ≡ 0
none_alone program selector e =
    let not : is_begun_query program (record { selector = selector; classes = [] }) ≡ false = ap (list_any (λ (d : Definition). true)) e in
    rw not refl

pub one_alone : (program : Program) (selector : ℕ) (d : Definition) (ds : List Definition) → definitions_of program selector ≡ d ∷ ds →
    length (told_after (told_begun program) selector 0 []) ≡ 1
one_alone program selector d ds e =
    let begun : is_begun_query program (record { selector = selector; classes = [] }) ≡ true = ap (list_any (λ (d : Definition). true)) e in
    rw begun refl
