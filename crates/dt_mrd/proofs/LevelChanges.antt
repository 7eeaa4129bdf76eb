-- The changes of a batch in the order of their queries, and what is held after them.
use Rattle.std.proofs.Common.{◌≡◌, ◌≢◌, ◌==◌, ℕ, ◌<◌, Bool, true, false, cond, ◌&&◌, List, [], ◌∷◌, length, ◌⊎◌, inl, inr, refl, ap, subst, ◌∙◌, arith}
use Rattle.std.specs.Prelude.{nat_eq, nat_lt}
use Rattle.std.specs.Ordering.{nat_cmp, ordering_then}
use Rattle.std.specs.Cmp.Lexicographic.{slice_cmp}
use Rattle.std.specs.List.Sorted.{IsStrictlySortedBy}
use Rattle.std.specs.declared.cmp.Ordering.{Ordering}
use Rattle.std.specs.declared.cmp.Ordering.TheVariants.{Less, Equal, Greater}
use Rattle.std.proofs.lemmas.Bool.{and_parts, and_from, or_left, or_right, eqb-true, eq-eqb}
use Rattle.std.proofs.lemmas.Map.Keys.{sorted_tail}
use Rattle.std.proofs.lemmas.Map.Views.{All-after_first}
use lib.Pointwise.{pointwise}
use Rattle.dt_scratch.specs.Query.{Query, arity_of_query, is_same_query, query_order}
use Rattle.dt_scratch.specs.declared.reply.Change.{Change}
use Rattle.dt_cells.specs.Held.{Held, held_after}
use Rattle.dt_cells.specs.HeldLaws.{by_cases, if_true, if_false, same_query}
use Rattle.dt_placing.specs.PlacingLaws.{lt_test, lt_tested}
use Rattle.dt_mrd.specs.Rows.{is_below}
use Rattle.dt_mrd.proofs.TurnLists.{same_row}
use Rattle.dt_mrd.proofs.LevelLists.{Has, all_has}
use Rattle.dt_mrd.proofs.LevelOrder.{below_differs}
use Rattle.dt_mrd.proofs.LevelSelectors.{IsSooner, AreInTurn}

abbrev order : Change → Change → Ordering
order a b = query_order a.query b.query

then_less : (m n : ℕ) (o : Ordering) → ordering_then (nat_cmp m n) o ≡ Less → (m < n) ⊎ ((m ≡ n) × (o ≡ Less))
then_less m n o e = elim (go (nat_lt m n) (m == n) o e) [
  | inl less ↦ inl (lt_tested m n less)
  | inr same ↦ inr (eqb-true m n same.0, same.1)
]
  where
    go : (a b : Bool) (o : Ordering) → ordering_then (cond a Less (cond b Equal Greater)) o ≡ Less → (a ≡ true) ⊎ ((b ≡ true) × (o ≡ Less))
    go true b o e = inl refl
    go false true o e = inr (refl, e)
    go false false o e = absurd (cc)

classes_below : (a b : List ℕ) → slice_cmp nat_cmp a b ≡ Less → is_below a b ≡ true
classes_below [] [] e = absurd (cc)
classes_below [] (y ∷ ys) e = refl
classes_below (x ∷ xs) [] e = absurd (cc)
classes_below (x ∷ xs) (y ∷ ys) e = elim (then_less x y (slice_cmp nat_cmp xs ys) e) [
  | inl less ↦ or_left (nat_lt x y) ((x == y) && is_below xs ys) (lt_test x y less)
  | inr same ↦ or_right (nat_lt x y) ((x == y) && is_below xs ys) (and_from (x == y) (is_below xs ys) (eq-eqb x y same.0) (classes_below xs ys same.1))
]

sooner_of : (a b : Change) → order a b ≡ Less → IsSooner a b
sooner_of a b e = elim (then_less a.query.selector b.query.selector (ordering_then (nat_cmp (arity_of_query a.query) (arity_of_query b.query)) (slice_cmp nat_cmp a.query.classes b.query.classes)) e) [
  | inl less ↦ inl less
  | inr same ↦ elim (then_less (arity_of_query a.query) (arity_of_query b.query) (slice_cmp nat_cmp a.query.classes b.query.classes) same.1) [
    | inl less ↦ inr (same.0, inl less)
    | inr also ↦ inr (same.0, inr (also.0, classes_below a.query.classes b.query.classes also.1))
  ]
]

pub in_turn_of : (changes : List Change) → IsStrictlySortedBy order changes → AreInTurn changes
in_turn_of [] sorted = tt
in_turn_of (first ∷ changes) sorted = (
  λ change has. sooner_of first change (all_has (λ (other : Change). order first other ≡ Less) changes (All-after_first order first changes sorted) change has),
  in_turn_of changes (sorted_tail order first changes sorted),
)

sooner_differs : (a b : Change) → IsSooner a b → a.query ≢ b.query
sooner_differs a b sooner same = elim sooner [
  | inl less ↦ (let e : a.query.selector ≡ b.query.selector = ap (λ (q : Query). q.selector) same in omega (arith, less, e))
  | inr later ↦ elim later.1 [
    | inl less ↦ (let e : length a.query.classes ≡ length b.query.classes = ap (λ (q : Query). length q.classes) same in omega (arith, less, e))
    | inr below ↦ below_differs a.query.classes b.query.classes below.1 (ap (λ (q : Query). q.classes) same)
  ]
]

query_itself : (q : Query) → is_same_query q q ≡ true
query_itself q = and_from (nat_eq q.selector q.selector) (nat_eq (arity_of_query q) (arity_of_query q) && pointwise nat_eq q.classes q.classes) (eq-eqb q.selector q.selector refl)
    (and_from (nat_eq (arity_of_query q) (arity_of_query q)) (pointwise nat_eq q.classes q.classes) (eq-eqb (arity_of_query q) (arity_of_query q) refl)
    (and_parts (0 == 0) (pointwise nat_eq q.classes q.classes) (same_row (0, q.classes) (0, q.classes) refl)).1)

-- the answer of a change is held after
pub answer_after : (held : Held) (changes : List Change) → AreInTurn changes → (change : Change) → Has changes change → held_after held changes change.query ≡ change.answer
answer_after held [] up change has = absurd has
answer_after held (first ∷ changes) up change has = elim has [
  | inl is ↦ subst (λ (c : Change). held_after held (first ∷ changes) c.query ≡ c.answer) is
      (if_true (is_same_query first.query first.query) first.answer (held_after held changes first.query) (query_itself first.query))
  | inr later ↦ if_false (is_same_query first.query change.query) first.answer (held_after held changes change.query)
      (by_cases (is_same_query first.query change.query) (λ t. absurd (sooner_differs first change (up.0 change later) (same_query first.query change.query t))) (λ f. f))
      ∙ answer_after held changes up.1 change later
]

-- every other query has the answer of before
pub answer_same : (held : Held) (changes : List Change) (query : Query) → ((change : Change) → Has changes change → change.query ≢ query) → held_after held changes query ≡ held query
answer_same held [] query none = refl
answer_same held (first ∷ changes) query none =
    if_false (is_same_query first.query query) first.answer (held_after held changes query)
    (by_cases (is_same_query first.query query) (λ t. absurd (none first (inl refl) (same_query first.query query t))) (λ f. f))
    ∙ answer_same held changes query (λ change has. none change (inr has))
