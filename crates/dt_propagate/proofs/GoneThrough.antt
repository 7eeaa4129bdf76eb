-- What is told of every query stands in the order of queries, and nothing is missing.
use Rattle.std.proofs.Common.{◌≡◌, ℕ, zero, suc, ◌<◌, ◌≤◌, IsTrue, List, [], ◌∷◌, ◌++◌, length, map, inl, inr, ◌⊎◌, ⊎_elim, refl, sym, ap, subst, ◌∙◌, arith, All, append_assoc, append-nil}
use Rattle.std.specs.Prelude.{nat_lt}
use Rattle.std.proofs.lemmas.Bool.Decides.{nat_tests}
use Rattle.std.specs.declared.cmp.Ordering.TheVariants.{Less, Equal}
use Rattle.std.specs.Ordering.{nat_cmp}
use Rattle.std.specs.Cmp.Lexicographic.{slice_cmp}
use Rattle.std.proofs.lemmas.Cmp.{tied_itself, nat_cmp_total}
use Rattle.std.proofs.lemmas.List.Elements.{All-nil, All-head, All-tail}
use Rattle.dt_graph.specs.Graph.{has_number}
use Rattle.dt_graph.specs.Lawful.{AscendingNumbers}
use Rattle.dt_graph.specs.declared.limits.TheConstants.{CLASSES}
use Rattle.dt_selectors.specs.declared.limits.TheConstants.{SELECTORS}
use Rattle.dt_graph.proofs.AscendingSets.{ascending_tail}
use Rattle.dt_graph.proofs.ClassBits.{AscendingNumbers-range, has_number-range, has_number-range_below}
use Rattle.dt_graph.proofs.ListMembers.{In, In-from_append, In-map, In-from_map, Contains-from_In, All-from_In, All-In}
use Rattle.dt_scratch.specs.Query.{Query, query_order}
use Rattle.dt_propagate.specs.Boxes.{in_turn}
use Rattle.dt_propagate.specs.Differences.{Ascending, AreAll, is_less}
use Rattle.dt_propagate.specs.GoneThrough.{all_arities, all_classes, all_selectors, told_after, told_of, told_of_all}
use Rattle.dt_propagate.proofs.Boxes.{In-turn, In-from_turn, first_lower}

-- ---- the numbers

pub classes_ascend : AscendingNumbers all_classes
unfolding all_classes
classes_ascend = AscendingNumbers-range 0 CLASSES

pub class_listed : (n : ℕ) → n < CLASSES → IsTrue (has_number all_classes n)
unfolding all_classes
class_listed n low = has_number-range 0 CLASSES n (omega arith) (omega (arith, low))

pub class_below : (n : ℕ) → IsTrue (has_number all_classes n) → n < CLASSES
unfolding all_classes
class_below n i = let low = has_number-range_below 0 CLASSES n i in omega (arith, low)

pub arities_ascend : AscendingNumbers all_arities
unfolding all_arities
arities_ascend = (refl, (refl, (refl, tt)))

pub arity_listed : (n : ℕ) → 0 < n → n ≤ 4 → IsTrue (has_number all_arities n)
unfolding all_arities
arity_listed n some few = grind (arith, nat_tests, some, few)

pub selectors_ascend : AscendingNumbers all_selectors
unfolding all_selectors
selectors_ascend = AscendingNumbers-range 0 SELECTORS

pub selector_listed : (n : ℕ) → n < SELECTORS → IsTrue (has_number all_selectors n)
unfolding all_selectors
selector_listed n low = has_number-range 0 SELECTORS n (omega arith) (omega (arith, low))

-- ---- the order of queries

abbrev pub IsBefore : Query → Query → Type 0
IsBefore a b = IsTrue (is_less (query_order a b))

less : (a b : ℕ) → IsTrue (nat_lt a b) → nat_cmp a b ≡ Less
less a b t = rw t refl

same : (a b : ℕ) → a ≡ b → nat_cmp a b ≡ Equal
same a b e = rw e (tied_itself nat_cmp_total b)

lower_class : (prefix : List ℕ) (c d : ℕ) (r s : List ℕ) → IsTrue (nat_lt c d) →
    slice_cmp nat_cmp ((prefix ++ c ∷ []) ++ r) ((prefix ++ d ∷ []) ++ s) ≡ Less
lower_class [] c d r s t = rw (less c d t) refl
lower_class (x ∷ prefix) c d r s t = rw (same x x refl) (lower_class prefix c d r s t)

by_classes : (selector : ℕ) (a b : List ℕ) → length a ≡ length b → slice_cmp nat_cmp a b ≡ Less →
    IsBefore (record { selector = selector; classes = a }) (record { selector = selector; classes = b })
by_classes selector a b e l = rw (same selector selector refl, same (length a) (length b) e, l) refl

by_arity : (selector : ℕ) (a b : List ℕ) → IsTrue (nat_lt (length a) (length b)) →
    IsBefore (record { selector = selector; classes = a }) (record { selector = selector; classes = b })
by_arity selector a b l = rw (same selector selector refl, less (length a) (length b) l) refl

by_selector : (a b : Query) → IsTrue (nat_lt a.selector b.selector) → IsBefore a b
by_selector a b l = rw (less a.selector b.selector l) refl

-- ---- in turn

module _ {T : Type 0} (key : T → Query) where
  -- each stands before all that come later
  abbrev pub EachBefore : List T → Type 0
  EachBefore [] = Unit {0}
  EachBefore (a ∷ rest) = All (λ b. IsBefore (key a) (key b)) rest × EachBefore rest

  append_each : (xs ys : List T) → EachBefore xs → EachBefore ys →
      ((x y : T) → In xs x → In ys y → IsBefore (key x) (key y)) → EachBefore (xs ++ ys)
  append_each [] ys hx hy apart = hy
  append_each (x ∷ xs) ys hx hy apart = (
    All-from_In (λ b. IsBefore (key x) (key b)) (xs ++ ys) (λ y i. ⊎_elim
        (λ j. All-In (λ b. IsBefore (key x) (key b)) xs y hx.0 j)
        (λ j. apart x y (inl refl) j)
        (In-from_append xs ys y i)),
    append_each xs ys hx.1 hy (λ a b i j. apart a b (inr i) j),
  )

  turns_each : (f : ℕ → List T) → ((c : ℕ) → EachBefore (f c)) →
      ((c d : ℕ) (x y : T) → IsTrue (nat_lt c d) → In (f c) x → In (f d) y → IsBefore (key x) (key y)) →
      (cs : List ℕ) → AscendingNumbers cs → EachBefore (in_turn f cs)
  turns_each f each apart [] h = tt
  turns_each f each apart (c ∷ cs) h =
      append_each (f c) (in_turn f cs) (each c) (turns_each f each apart cs (ascending_tail c cs h))
      (λ x y i j. let t = In-from_turn f cs y j in apart c t.0 x y (first_lower c cs h t.0 t.1) i t.2)

  pub ascending : (xs : List T) → EachBefore xs → Ascending query_order (map key xs)
  ascending [] h = tt
  ascending (a ∷ []) h = tt
  ascending (a ∷ b ∷ xs) h = (All-head (λ b. IsBefore (key a) (key b)) b xs h.0, ascending (b ∷ xs) h.1)

  -- nothing is told of a query, or one thing of that query
  abbrev pub TellsOnce : (Query → List T) → Type 0
  TellsOnce told = (query : Query) → (told query ≡ []) ⊎ ((x : T) × (told query ≡ x ∷ []) × (key x ≡ query))

  module _ (told : Query → List T) (once : TellsOnce told) where
    once_each : (query : Query) → EachBefore (told query)
    once_each query = ⊎_elim
        (λ none. subst EachBefore (sym none) tt)
        (λ one. subst EachBefore (sym one.1) (All-nil (λ b. IsBefore (key one.0) (key b)), tt))
        (once query)

    pub told_key : (query : Query) (x : T) → In (told query) x → key x ≡ query
    told_key query x i = ⊎_elim
        (λ none. absurd (subst (λ xs. In xs x) none i))
        (λ one. ⊎_elim (λ e. ap key e ∙ one.2) (λ j. absurd j) (subst (λ xs. In xs x) one.1 i))
        (once query)

    abbrev pub query_at : ℕ → List ℕ → Query
    query_at selector classes = record { selector = selector; classes = classes }

    -- what is told after a prefix is told of a query that goes on from it
    pub record IsToldAfter (selector k : ℕ) (prefix : List ℕ) (x : T) : Type 0 where
      pub rest : List ℕ
      pub as_many : length rest ≡ k
      pub there : In (told (query_at selector (prefix ++ rest))) x

    pub told_from : (selector k : ℕ) (prefix : List ℕ) (x : T) → In (told_after told selector k prefix) x → IsToldAfter selector k prefix x
    told_from selector zero prefix x i = record {
      rest = [];
      as_many = refl;
      there = subst (λ classes. In (told (query_at selector classes)) x) (sym (append-nil prefix)) i;
    }
    told_from selector (suc k) prefix x i =
        let t = In-from_turn (λ class. told_after told selector k (prefix ++ class ∷ [])) all_classes x i in
        let a = told_from selector k (prefix ++ t.0 ∷ []) x t.2 in record {
          rest = t.0 ∷ a.rest;
          as_many = ap suc a.as_many;
          there = subst (λ classes. In (told (query_at selector classes)) x) (append_assoc prefix (t.0 ∷ []) a.rest) a.there;
        }

    told_there : (selector : ℕ) (prefix rest : List ℕ) (x : T) → All (λ class. class < CLASSES) rest →
        In (told (query_at selector (prefix ++ rest))) x → In (told_after told selector (length rest) prefix) x
    told_there selector prefix [] x low i = subst (λ classes. In (told (query_at selector classes)) x) (append-nil prefix) i
    told_there selector prefix (class ∷ rest) x low i =
        In-turn (λ c. told_after told selector (length rest) (prefix ++ c ∷ [])) all_classes class x
        (class_listed class (All-head (λ c. c < CLASSES) class rest low))
        (told_there selector (prefix ++ class ∷ []) rest x (All-tail (λ c. c < CLASSES) class rest low)
        (subst (λ classes. In (told (query_at selector classes)) x) (sym (append_assoc prefix (class ∷ []) rest)) i))

    -- its key is that query
    key_after : (selector k : ℕ) (prefix : List ℕ) (x : T) → In (told_after told selector k prefix) x →
        (rest : List ℕ) × (length rest ≡ k) × (key x ≡ query_at selector (prefix ++ rest))
    key_after selector k prefix x i =
        let a = told_from selector k prefix x i in
        (a.rest, a.as_many, told_key (query_at selector (prefix ++ a.rest)) x a.there)

    same_length : (prefix : List ℕ) (c d : ℕ) (r s : List ℕ) → length r ≡ length s →
        length ((prefix ++ c ∷ []) ++ r) ≡ length ((prefix ++ d ∷ []) ++ s)
    same_length [] c d r s e = ap suc e
    same_length (x ∷ prefix) c d r s e = ap suc (same_length prefix c d r s e)

    after_each : (selector k : ℕ) (prefix : List ℕ) → EachBefore (told_after told selector k prefix)
    after_each selector zero prefix = once_each (query_at selector prefix)
    after_each selector (suc k) prefix =
        turns_each (λ class. told_after told selector k (prefix ++ class ∷ []))
        (λ class. after_each selector k (prefix ++ class ∷ []))
        (λ c d x y l i j.
        let a = key_after selector k (prefix ++ c ∷ []) x i in
        let b = key_after selector k (prefix ++ d ∷ []) y j in
        rw (a.2, b.2) (by_classes selector ((prefix ++ c ∷ []) ++ a.0) ((prefix ++ d ∷ []) ++ b.0)
        (same_length prefix c d a.0 b.0 (a.1 ∙ sym b.1)) (lower_class prefix c d a.0 b.0 l)))
        all_classes classes_ascend

    module _ (arities : List ℕ) (arities_ascend : AscendingNumbers arities) where
      pub of_each : (selector : ℕ) → EachBefore (told_of told arities selector)
      of_each selector = turns_each (λ arity. told_after told selector arity []) (λ arity. after_each selector arity [])
          (λ c d x y l i j.
          let a = key_after selector c [] x i in
          let b = key_after selector d [] y j in
          rw (a.2, b.2) (by_arity selector a.0 b.0 (rw (a.1, b.1) l)))
          arities arities_ascend

      key_of_selector : (selector : ℕ) (x : T) → In (told_of told arities selector) x → (key x).selector ≡ selector
      key_of_selector selector x i =
          let t = In-from_turn (λ arity. told_after told selector arity []) arities x i in
          ap (λ q. q.selector) (key_after selector t.0 [] x t.2).2

      all_each : EachBefore (told_of_all told arities)
      all_each = turns_each (told_of told arities) of_each
          (λ c d x y l i j. by_selector (key x) (key y)
          (rw (key_of_selector c x i, key_of_selector d y j) l))
          all_selectors selectors_ascend

      -- what is told is told of a query
      pub told_of_one : (x : T) → In (told_of_all told arities) x → (query : Query) × In (told query) x
      told_of_one x i =
          let s = In-from_turn (told_of told arities) all_selectors x i in
          let k = In-from_turn (λ arity. told_after told s.0 arity []) arities x s.2 in
          let a = told_from s.0 k.0 [] x k.2 in
          (query_at s.0 a.rest, a.there)

      -- the query's numbers are among those that are gone through
      pub record IsGoneThrough (query : Query) : Type 0 where
        pub selector : query.selector < SELECTORS
        pub arity : IsTrue (has_number arities (length query.classes))
        pub classes : All (λ class. class < CLASSES) query.classes

      all_there : (query : Query) (x : T) → IsGoneThrough query → In (told query) x → In (told_of_all told arities) x
      all_there query x through i =
          In-turn (told_of told arities) all_selectors query.selector x (selector_listed query.selector through.selector)
          (In-turn (λ arity. told_after told query.selector arity []) arities (length query.classes) x through.arity
          (told_there query.selector [] query.classes x through.classes i))

      pub told_are_all : (Holds : Query → Type 0) → ((query : Query) (x : T) → In (told query) x → Holds query) →
          ((query : Query) → Holds query → IsGoneThrough query × ((x : T) × In (told query) x)) →
          AreAll query_order Holds (map key (told_of_all told arities))
      told_are_all Holds sound complete = record {
        ascending = ascending (told_of_all told arities) all_each;
        each_holds = All-from_In Holds (map key (told_of_all told arities)) (λ q i.
            let m = In-from_map key (told_of_all told arities) q i in
            let t = told_of_one m.0 m.1 in
            subst Holds (sym (m.2 ∙ told_key t.0 m.0 t.1)) (sound t.0 m.0 t.1));
        none_missing = λ query holds.
            let c = complete query holds in
            Contains-from_In (map key (told_of_all told arities)) query
            (subst (In (map key (told_of_all told arities))) (told_key query c.1.0 c.1.1)
            (In-map key (told_of_all told arities) c.1.0 (all_there query c.1.0 c.0 c.1.1)));
      }
