-- A table can follow the differences of two programs, as far as its kind covers their arities.
use Rattle.std.proofs.Common.{◌≡◌, ◌≢◌, ℕ, ◌<◌, ◌≤◌, true, false, IsTrue, List, [], ◌∷◌, length, map, filter, take, drop, ◌⊎◌, inl, inr, ⊎_elim, refl, sym, ap, subst, ◌∙◌, arith, eq-eqb}
use Rattle.std.specs.Prelude.{nat_eq, nat_le, Option, Some}
use Rattle.std.specs.List.{list_any, AllByRecursion}
use Rattle.std.specs.List.Sorted.{IsStrictlySortedBy}
use Rattle.std.specs.declared.cmp.Ordering.{Ordering}
use Rattle.std.specs.declared.cmp.Ordering.TheVariants.{Less, Equal, Greater}
use Rattle.std.specs.Cmp.{IsTotalOrder}
use Rattle.std.proofs.lemmas.Cmp.{nat_cmp_total, nat_list_cmp_total, on_total, then_total}
use Rattle.std.proofs.lemmas.Bool.{false≢true, and_from}
use Rattle.std.proofs.lemmas.List.{length-map, take-append-drop, length-drop}
use Rattle.std.proofs.lemmas.List.Elements.{All-weaker}
use Rattle.std.proofs.lemmas.List.Kept.{IsStrictlySortedBy-filter}
use lib.Pointwise.{pointwise}
use Rattle.dt_graph.specs.Graph.{is_live}
use Rattle.dt_graph.proofs.ListMembers.{by_cases, In, In-from_Contains, Contains-from_In, In-map, In-from_map, In-filter, In-from_filter, none_at, All-In, All-from_In}
use Rattle.dt_pages.specs.Reading.{Reading}
use Rattle.dt_definitions.specs.Program.{Program, arity_of}
use Rattle.dt_definitions.specs.Lawful.{Lawful}
use Rattle.dt_scratch.specs.declared.reply.Answer.{Answer}
use Rattle.dt_scratch.specs.declared.reply.Answer.TheVariants.{Method, NotUnderstood, Ambiguous}
use Rattle.dt_scratch.specs.declared.reply.Change.{Change}
use Rattle.dt_scratch.specs.Query.{Query, arity_of_query, is_same_query, query_order}
use Rattle.dt_scratch.specs.Resolve.{cell}
use Rattle.dt_scratch.specs.CellLaws.{UnderstoodCells, CellsAreAnswers}
use Rattle.dt_scratch.specs.Laws.{MethodsAreInRange}
use Rattle.dt_propagate.specs.Begun.{told_row, row_lengths}
use Rattle.dt_propagate.specs.GoneThrough.{told_of_all}
use Rattle.dt_propagate.specs.Differences.{Ascending, Differs, TellsNewCell, is_less, AreAll}
use Rattle.dt_propagate.specs.Differences as found
use Rattle.dt_propagate.specs.Limits.{IsWithinLimits}
use Rattle.dt_propagate.specs.Understood.{IsRow}
use Rattle.dt_propagate.proofs.CellsAndRows.{rows_all}
use Rattle.dt_propagate.proofs.Leaf.{same_answers, other_answers}
use Rattle.dt_propagate.specs.Walk.{is_same_answer}
use Rattle.dt_propagate.proofs.Touching.{one_understood}
use Rattle.dt_cells.specs.Held.{Held, IsInRange, HasBodyInRange, HasFewRows, Row, IsStageableChange, IsStageable, held_after, most_rows}
use Rattle.dt_cells.specs.Kind.{Kind}
use Rattle.dt_cells.specs.Serving.{HoldsCells, AreDifferences, CellsFollow}
use Rattle.dt_cells.specs.Following.{IsTableOf, CanFollow}
use Rattle.dt_cells.proofs.Limits.{within_limits}
use Rattle.dt_tables.specs.Kept.{is_covered}

-- ---- equal queries, and answers

same_pointwise : (xs : List ℕ) → pointwise nat_eq xs xs ≡ true
same_pointwise [] = refl
same_pointwise (x ∷ xs) = and_from (nat_eq x x) (pointwise nat_eq xs xs) (eq-eqb x x refl) (same_pointwise xs)

pub same_itself : (q : Query) → is_same_query q q ≡ true
same_itself q = and_from (nat_eq q.selector q.selector) _ (eq-eqb q.selector q.selector refl)
    (and_from (nat_eq (length q.classes) (length q.classes)) (pointwise nat_eq q.classes q.classes)
    (eq-eqb (length q.classes) (length q.classes) refl) (same_pointwise q.classes))

same_or_differ : (a b : Answer) → (a ≡ b) ⊎ (a ≢ b)
same_or_differ a b = by_cases (is_same_answer a b) (λ t. inl (same_answers a b t)) (λ f. inr (other_answers a b f))

some_same : (m n : ℕ) (o : Option ℕ) → o ≡ Some m → o ≡ Some n → m ≡ n
some_same m n o e f = cc

le_test : (m n : ℕ) → m ≤ n → nat_le m n ≡ true
le_test m n h = grind arith

le_from : (m n : ℕ) → nat_le m n ≡ true → m ≤ n
le_from m n t = grind arith

lt_from : (m n : ℕ) → nat_le m n ≡ false → n < m
lt_from m n f = grind arith

-- ---- order

query_total : IsTotalOrder query_order
query_total =
    then_total (on_total (λ (q : Query). q.selector) nat_cmp_total)
    (then_total (on_total arity_of_query nat_cmp_total) (on_total (λ (q : Query). q.classes) nat_list_cmp_total))

is_less-true : (o : Ordering) → is_less o ≡ true → o ≡ Less
is_less-true Less t = refl
is_less-true Equal t = absurd (false≢true t)
is_less-true Greater t = absurd (false≢true t)

abbrev query_of : Change → Query
query_of change = change.query

before_all : (a : Query) (xs : List Change) → Ascending query_order (a ∷ map query_of xs) → AllByRecursion (λ y. query_order a (query_of y) ≡ Less) xs
before_all a [] h = tt
before_all a (y ∷ []) h = (is_less-true (query_order a (query_of y)) h.0, tt)
before_all a (y ∷ z ∷ zs) h =
    let first = is_less-true (query_order a (query_of y)) h.0 in
    let next = is_less-true (query_order (query_of y) (query_of z)) h.1.0 in
    (first, before_all a (z ∷ zs) (ap is_less (query_total.trans a (query_of y) (query_of z) first next), h.1.1))

rest_ascends : (x : Change) (xs : List Change) → Ascending query_order (map query_of (x ∷ xs)) → Ascending query_order (map query_of xs)
rest_ascends x [] h = tt
rest_ascends x (y ∷ ys) h = h.1

sorted : (xs : List Change) → Ascending query_order (map query_of xs) → IsStrictlySortedBy (λ a b. query_order (query_of a) (query_of b)) xs
unfolding IsStrictlySortedBy
sorted [] h = tt
sorted (x ∷ xs) h = (before_all (query_of x) xs h, sorted xs (rest_ascends x xs h))

-- ---- what is understood is in range

module _ (understood : UnderstoodCells) (answers : CellsAreAnswers) (methods : MethodsAreInRange) where
  pub record IsFit (q : Query) : Type 0 where
    pub some : 1 ≤ arity_of_query q
    pub range : IsInRange q

  fits : (p : Program) → Lawful p → (q : Query) → cell p q ≢ NotUnderstood → IsFit q
  fits p lawful q some =
      let is = (understood p lawful q).0 some in
      let limits = within_limits p lawful in
      let range = limits.selectors q.selector (arity_of_query q) is.arity_fits in record {
        some = range.1;
        range = record {
          selector = range.0;
          classes = All-weaker (λ class. IsTrue (is_live p.graph class)) (λ class. class < 2048) (λ class live. limits.classes class live) q.classes is.classes_live;
        };
      }

  body_in_range : (p : Program) → Lawful p → (q : Query) → HasBodyInRange (cell p q)
  body_in_range p lawful q = by_answer (cell p q) refl
    where
      by_answer : (v : Answer) → cell p q ≡ v → HasBodyInRange v
      by_answer (Method body) e = methods p lawful q body (sym (answers p lawful q) ∙ e)
      by_answer NotUnderstood e = tt
      by_answer Ambiguous e = tt

  -- ---- the rows of a program are few

  few : (p : Program) (lawful : Lawful p) → IsWithinLimits p → length (told_of_all (told_row p) row_lengths) ≤ most_rows
  few p lawful within = by_cases (nat_le (length (told_of_all (told_row p) row_lengths)) most_rows)
      (λ t. le_from (length (told_of_all (told_row p) row_lengths)) most_rows t)
      (λ f. let rows = rows_all p lawful in
      absurd (within.few_rows (told_of_all (told_row p) row_lengths, rows.ascending, rows.each_holds, lt_from (length (told_of_all (told_row p) row_lengths)) most_rows f)))

  abbrev row_of : Query → Row
  row_of prefix = (prefix.selector, prefix.classes)

  few_rows : (p : Program) (lawful : Lawful p) (high : ℕ) (held : Held) → IsWithinLimits p → HoldsCells 1 high p held → HasFewRows most_rows held
  few_rows p lawful high held within holds = (
    map row_of (told_of_all (told_row p) row_lengths),
    subst (λ n. n ≤ most_rows) (sym (length-map (told_of_all (told_row p) row_lengths) row_of)) (few p lawful within),
    λ q n h short.
        let is = holds.none q h in
        let prefix : Query = record { selector = q.selector; classes = take n q.classes } in
        let row : IsRow p prefix = (
          drop n q.classes,
          record {
            some = λ none. let left = length-drop n q.classes in let zero : length (drop n q.classes) ≡ 0 = ap length none in absurd (omega (arith, left, zero, short));
            understood = λ e. h (holds.cells q is.1 is.2
                ∙ ap (λ classes. cell p (record { selector = q.selector; classes = classes })) (sym (take-append-drop n q.classes)) ∙ e);
          },
        ) in
        Contains-from_In (map row_of (told_of_all (told_row p) row_lengths)) (q.selector, take n q.classes)
        (In-map row_of (told_of_all (told_row p) row_lengths) prefix
        (In-from_Contains (told_of_all (told_row p) row_lengths) prefix ((rows_all p lawful).none_missing prefix row))),
  )

  -- ---- the covered changes are the differences, and may be staged

  module _ (follow : CellsFollow) (old new : Program) (is_old : Lawful old) (is_new : Lawful new) (most : ℕ)
      (all : List Change) (diff : found.AreDifferences old new all) where
    abbrev covered : List Change
    covered = filter (is_covered most) all

    differs : (c : Change) → In covered c → Differs old new c.query
    differs c i = All-In (Differs old new) (map query_of all) c.query diff.queries.each_holds
        (In-map query_of all c (In-from_filter (is_covered most) all c i).0)

    new_cell : (c : Change) → In covered c → c.answer ≡ cell new c.query
    new_cell c i = All-In (TellsNewCell new) all c diff.answers (In-from_filter (is_covered most) all c i).0

    at_most : (c : Change) → In covered c → arity_of_query c.query ≤ most
    at_most c i = le_from (arity_of_query c.query) most (In-from_filter (is_covered most) all c i).1

    fit : (c : Change) → In covered c → IsFit c.query
    fit c i = ⊎_elim (λ some. fits old is_old c.query some) (λ some. fits new is_new c.query some)
        (one_understood old new c.query (differs c i))

    pub are_differences : AreDifferences 1 most old new covered
    are_differences = record {
      cells = All-from_In (λ change. change.answer ≡ cell new change.query) covered new_cell;
      arities = All-from_In (λ change. (1 ≤ arity_of_query change.query) × (arity_of_query change.query ≤ most)) covered
          (λ c i. ((fit c i).some, at_most c i));
      all = λ q least high none. ⊎_elim (λ e. e) (λ d. absurd (missing q high none d)) (same_or_differ (cell old q) (cell new q));
    }
      where
        missing : (q : Query) → arity_of_query q ≤ most → list_any (λ change. is_same_query change.query q) covered ≡ false → Differs old new q → ⊥
        missing q high none d =
            let at = In-from_map query_of all q (In-from_Contains (map query_of all) q (diff.queries.none_missing q d)) in
            let i = In-filter (is_covered most) all at.0 at.1 (le_test (arity_of_query (at.0).query) most (subst (λ r. arity_of_query r ≤ most) at.2 high)) in
            false≢true (sym (none_at (λ change. is_same_query change.query q) covered at.0 i none)
            ∙ subst (λ r. is_same_query r q ≡ true) at.2 (same_itself q))

    pub is_stageable : (held : Held) → IsWithinLimits new → HoldsCells 1 most old held → IsStageable 1 most held covered
    is_stageable held within holds =
        let now : HoldsCells 1 most new (held_after held covered) = follow 1 most old new held covered is_new holds are_differences in record {
          ascending = IsStrictlySortedBy-filter (λ a b. query_order (query_of a) (query_of b)) (is_covered most) all (sorted all diff.queries.ascending);
          each = All-from_In (IsStageableChange 1 most) covered (λ c i. record {
            least = (fit c i).some;
            greatest = at_most c i;
            range = (fit c i).range;
            body = subst HasBodyInRange (sym (new_cell c i)) (body_in_range new is_new c.query);
          });
          one_arity = λ q r h g same. some_same (arity_of_query q) (arity_of_query r) (arity_of new q.selector) (now.none q h).0
              (ap (arity_of new) same ∙ (now.none r g).0);
          few_rows = few_rows new is_new most (held_after held covered) within now;
        }

    pub can_follow : (k : Kind) → k.arities ≡ most → (stands : Reading → Held → Type 0) (x : Reading) (held : Held) → IsWithinLimits new
        → IsTableOf k stands 1 x held old → CanFollow k stands 1 x held covered old new
    can_follow k same stands x held within table = record {
      table = table;
      differences = subst (λ n. AreDifferences 1 n old new covered) (sym same) are_differences;
      stageable = subst (λ n. IsStageable 1 n held covered) (sym same)
          (is_stageable held within (subst (λ n. HoldsCells 1 n old held) same table.holds));
    }

  -- as a caller has it, that knows the list by an equation
  pub covered_can_follow : (follow : CellsFollow) (old new : Program) (is_old : Lawful old) (is_new : Lawful new) (most : ℕ) (items : List Change)
      → (all : List Change) × found.AreDifferences old new all × (items ≡ filter (is_covered most) all)
      → (k : Kind) → k.arities ≡ most → (stands : Reading → Held → Type 0) (low : ℕ) → low ≡ 1 → (x : Reading) (held : Held) → IsWithinLimits new
      → IsTableOf k stands 1 x held old → CanFollow k stands low x held items old new
  covered_can_follow follow old new is_old is_new most items found k same stands low least x held within table =
      subst (λ n. CanFollow k stands n x held items old new) (sym least)
      (subst (λ changes. CanFollow k stands 1 x held changes old new) (sym found.2)
      (can_follow follow old new is_old is_new most found.0 found.1 k same stands x held within table))
