-- Lists in strict order stay so where an element is placed and where some are left out; and a change is undone.
use Rattle.std.proofs.Common.{◌≡◌, ◌≤◌, Bool, true, false, cond, IsTrue, List, [], ◌∷◌, Option, None, Some, is_some, All, filter, find, refl, sym, ap, subst, ◌∙◌, inl, inr, ⊎_elim}
use Rattle.std.specs.List.{list_any, count_by}
use Rattle.std.proofs.Common.{arith}
use Rattle.std.proofs.lemmas.Bool.{cond_both, false≢true}
use Rattle.std.proofs.lemmas.List.Elements.{All-nil, All-cons, All-head, All-tail, All-weaker, All-filter}
use Rattle.std.proofs.lemmas.List.Sums.{sum_by-cons}
use Rattle.dt_graph.proofs.ListMembers.{In}
use Rattle.dt_graph.specs.InOrder.{StrictOrder, Ascends, insert_by_key, find_at, without}

-- an element is found exactly where one passes the test
pub is_some-find : {X : Type 0} (test : X → Bool) (xs : List X) → is_some (find test xs) ≡ list_any test xs
is_some-find test [] = refl
is_some-find test (x ∷ xs) = let r = is_some-find test xs in grind arith

pub no_some : {X : Type 0} (o : Option X) → is_some o ≡ false → o ≡ None
no_some None h = refl
no_some (Some x) h = absurd (false≢true (sym h))

module _ {X K : Type 0} (key : X → K) (before same : K → K → Bool) (order : StrictOrder before same) where
  abbrev BeforeAll : K → List X → Type 0
  BeforeAll k xs = All (λ x. IsTrue (before k (key x))) xs

  pub first_before_all : (a : X) (xs : List X) → Ascends key before (a ∷ xs) → BeforeAll (key a) xs
  first_before_all a [] u = All-nil (λ x. IsTrue (before (key a) (key x)))
  first_before_all a (b ∷ xs) u = All-cons (λ x. IsTrue (before (key a) (key x))) b xs u.0
      (All-weaker (λ x. IsTrue (before (key b) (key x))) (λ x. IsTrue (before (key a) (key x)))
      (λ x h. order.transitive (key a) (key b) (key x) u.0 h) xs (first_before_all b xs u.1))

  pub Ascends-tail : (a : X) (xs : List X) → Ascends key before (a ∷ xs) → Ascends key before xs
  Ascends-tail a [] u = tt
  Ascends-tail a (b ∷ xs) u = u.1

  pub Ascends-cons : (a : X) (xs : List X) → BeforeAll (key a) xs → Ascends key before xs → Ascends key before (a ∷ xs)
  Ascends-cons a [] all u = tt
  Ascends-cons a (b ∷ xs) all u = (All-head (λ x. IsTrue (before (key a) (key x))) b xs all, u)

  pub Ascends-filter : (test : X → Bool) (xs : List X) → Ascends key before xs → Ascends key before (filter test xs)
  Ascends-filter test [] u = tt
  Ascends-filter test (a ∷ xs) u =
      let rest = Ascends-filter test xs (Ascends-tail a xs u) in
      cond_both (test a) (a ∷ filter test xs) (filter test xs) (Ascends key before)
      (λ _. Ascends-cons a (filter test xs) (All-filter test (λ x. IsTrue (before (key a) (key x))) xs (first_before_all a xs u)) rest)
      (λ _. rest)

  -- a proof for each of the places where an element may go
  pub placed : (P : List X → Type 0) (new x : X) (xs : List X)
      → (IsTrue (before (key new) (key x)) → P (new ∷ x ∷ xs))
      → (before (key new) (key x) ≡ false → IsTrue (same (key new) (key x)) → P (new ∷ xs))
      → (before (key new) (key x) ≡ false → same (key new) (key x) ≡ false → P (x ∷ insert_by_key key before same new xs))
      → P (insert_by_key key before same new (x ∷ xs))
  placed P new x xs first here later =
      cond_both (before (key new) (key x)) (new ∷ x ∷ xs) (cond (same (key new) (key x)) (new ∷ xs) (x ∷ insert_by_key key before same new xs)) P
      first (λ b. cond_both (same (key new) (key x)) (new ∷ xs) (x ∷ insert_by_key key before same new xs) P (here b) (later b))

  pub All-insert : (P : X → Type 0) (new : X) (xs : List X) → P new → All P xs → All P (insert_by_key key before same new xs)
  All-insert P new [] one all = All-cons P new [] one all
  All-insert P new (x ∷ xs) one all = placed (All P) new x xs
      (λ _. All-cons P new (x ∷ xs) one all)
      (λ _ _. All-cons P new xs one (All-tail P x xs all))
      (λ _ _. All-cons P x (insert_by_key key before same new xs) (All-head P x xs all) (All-insert P new xs one (All-tail P x xs all)))

  pub Ascends-insert : (new : X) (xs : List X) → Ascends key before xs → Ascends key before (insert_by_key key before same new xs)
  Ascends-insert new [] u = tt
  Ascends-insert new (x ∷ xs) u = placed (Ascends key before) new x xs
      (λ b. (b, u))
      (λ _ s. Ascends-cons new xs (subst (λ k. BeforeAll k xs) (sym (order.equal (key new) (key x) s)) (first_before_all x xs u)) (Ascends-tail x xs u))
      (λ b s. Ascends-cons x (insert_by_key key before same new xs)
      (All-insert (λ y. IsTrue (before (key x) (key y))) new xs (order.total (key new) (key x) b s) (first_before_all x xs u))
      (Ascends-insert new xs (Ascends-tail x xs u)))

  -- ---- what stands before all is not among them

  not_same : (k : K) (x : X) → IsTrue (before k (key x)) → same k (key x) ≡ false
  not_same k x b = let e = order.equal k (key x) in let i = order.irreflexive k in grind arith

  pub none_found : (k : K) (xs : List X) → BeforeAll k xs → find_at key same k xs ≡ None
  none_found k [] all = refl
  none_found k (x ∷ xs) all =
      rw (not_same k x (All-head (λ y. IsTrue (before k (key y))) x xs all))
      (none_found k xs (All-tail (λ y. IsTrue (before k (key y))) x xs all))

  -- a key that stands before the first stands before all, and is not there
  pub before_first : (k : K) (x : X) (xs : List X) → Ascends key before (x ∷ xs) → IsTrue (before k (key x)) → BeforeAll k (x ∷ xs)
  before_first k x xs u b = All-cons (λ y. IsTrue (before k (key y))) x xs b
      (All-weaker (λ y. IsTrue (before (key x) (key y))) (λ y. IsTrue (before k (key y)))
      (λ y l. order.transitive k (key x) (key y) b l) xs (first_before_all x xs u))

  absent_before : (k : K) (x : X) (xs : List X) → Ascends key before (x ∷ xs) → IsTrue (before k (key x)) → find_at key same k (x ∷ xs) ≡ None
  absent_before k x xs u b = none_found k (x ∷ xs) (before_first k x xs u b)

  pub none_listed : (k : K) (x : X) (xs : List X) → Ascends key before (x ∷ xs) → IsTrue (before k (key x)) → list_any (λ y. same k (key y)) (x ∷ xs) ≡ false
  none_listed k x xs u b = sym (is_some-find (λ y. same k (key y)) (x ∷ xs)) ∙ ap is_some (absent_before k x xs u b)

  -- the key of the first is not there again
  pub not_again : (k : K) (x : X) (xs : List X) → Ascends key before (x ∷ xs) → IsTrue (same k (key x)) → find_at key same k xs ≡ None
  not_again k x xs u s = none_found k xs (subst (λ q. BeforeAll q xs) (sym (order.equal k (key x) s)) (first_before_all x xs u))

  none_counted : (k : K) (xs : List X) → find_at key same k xs ≡ None → count_by (λ x. same k (key x)) xs ≡ 0
  none_counted k [] h = refl
  none_counted k (x ∷ xs) h =
      let r = none_counted k xs in let c = sum_by-cons (λ y. cond (same k (key y)) 1 0) x xs in grind arith

  -- no key stands twice
  pub stands_once : (k : K) (xs : List X) → Ascends key before xs → count_by (λ x. same k (key x)) xs ≤ 1
  stands_once k [] u = omega arith
  stands_once k (x ∷ xs) u =
      let r = stands_once k xs (Ascends-tail x xs u) in
      let none : IsTrue (same k (key x)) → count_by (λ y. same k (key y)) xs ≡ 0 = λ s. none_counted k xs (not_again k x xs u s) in
      let c = sum_by-cons (λ y. cond (same k (key y)) 1 0) x xs in grind arith

  pub without_none : (k : K) (xs : List X) → find_at key same k xs ≡ None → without key same k xs ≡ xs
  without_none k [] h = refl
  without_none k (x ∷ xs) h = let r = without_none k xs in grind arith

  pub inserted_first : (d : X) (xs : List X) → BeforeAll (key d) xs → insert_by_key key before same d xs ≡ d ∷ xs
  inserted_first d [] all = refl
  inserted_first d (x ∷ xs) all = rw (All-head (λ y. IsTrue (before (key d) (key y))) x xs all) refl

  -- ---- undoing

  -- what is placed goes again
  pub remove_inserted : (d : X) (xs : List X) → find_at key same (key d) xs ≡ None → without key same (key d) (insert_by_key key before same d xs) ≡ xs
  remove_inserted d [] h = rw (order.reflexive (key d)) refl
  remove_inserted d (x ∷ xs) h =
      let r = remove_inserted d xs in
      let stays = without_none (key d) xs in
      let own = order.reflexive (key d) in grind arith

  -- an element that is found has the key
  pub found_key : (k : K) (xs : List X) (old : X) → find_at key same k xs ≡ Some old → key old ≡ k
  found_key k [] old h = absurd cc
  found_key k (x ∷ xs) old h = let r = found_key k xs old in let e = order.equal k (key x) in grind arith

  -- an element goes back behind one that stands before it
  inserted_behind : (old x : X) (k : K) (xs : List X) → key old ≡ k → before k (key x) ≡ false → same k (key x) ≡ false
      → insert_by_key key before same old (x ∷ xs) ≡ x ∷ insert_by_key key before same old xs
  inserted_behind old x k xs e b s = grind arith

  -- and in place of one with its key
  inserted_over : (old d : X) (xs : List X) → key old ≡ key d → insert_by_key key before same old (d ∷ xs) ≡ old ∷ xs
  inserted_over old d xs e =
      let late = order.irreflexive (key d) in let own = order.reflexive (key d) in grind arith

  not_before : (k : K) (x : X) (xs : List X) (old : X) → Ascends key before (x ∷ xs) → find_at key same k (x ∷ xs) ≡ Some old
      → before k (key x) ≡ true → ⊥
  not_before k x xs old u h b = let none = absent_before k x xs u b in absurd cc

  pub put_back_replaced : (d old : X) (xs : List X) → Ascends key before xs → find_at key same (key d) xs ≡ Some old
      → insert_by_key key before same old (insert_by_key key before same d xs) ≡ xs
  put_back_replaced d old [] u h = absurd cc
  put_back_replaced d old (x ∷ xs) u h =
      let k = found_key (key d) (x ∷ xs) old h in
      let late = not_before (key d) x xs old u h in
      let over = inserted_over old d xs k in
      let behind = inserted_behind old x (key d) (insert_by_key key before same d xs) k in
      let rest = put_back_replaced d old xs (Ascends-tail x xs u) in grind arith

  pub put_back_removed : (k : K) (old : X) (xs : List X) → Ascends key before xs → find_at key same k xs ≡ Some old
      → insert_by_key key before same old (without key same k xs) ≡ xs
  put_back_removed k old [] u h = absurd cc
  put_back_removed k old (x ∷ xs) u h =
      let late = not_before k x xs old u h in
      let gone : IsTrue (same k (key x)) → without key same k xs ≡ xs = λ s. without_none k xs (not_again k x xs u s) in
      let first = inserted_first x xs (first_before_all x xs u) in
      let behind = inserted_behind old x k (without key same k xs) (found_key k (x ∷ xs) old h) in
      let rest = put_back_removed k old xs (Ascends-tail x xs u) in grind arith

  -- ---- two in either order

  -- the key stands before the first
  abbrev IsFirst : K → List X → Type 0
  IsFirst k [] = Unit {0}
  IsFirst k (x ∷ xs) = IsTrue (before k (key x))

  inserted_in_front : (d : X) (xs : List X) → IsFirst (key d) xs → insert_by_key key before same d xs ≡ d ∷ xs
  inserted_in_front d [] h = refl
  inserted_in_front d (x ∷ xs) h = rw h refl

  -- behind one that stands before it
  inserted_after : (d x : X) (xs : List X) → IsTrue (before (key x) (key d)) → insert_by_key key before same d (x ∷ xs) ≡ x ∷ insert_by_key key before same d xs
  inserted_after d x xs b =
      let back = order.transitive (key x) (key d) (key x) b in
      let own = order.irreflexive (key x) in
      let alike = order.equal (key d) (key x) in grind arith

  first_placed : (d e : X) (xs : List X) → IsTrue (before (key d) (key e)) → IsFirst (key d) xs → IsFirst (key d) (insert_by_key key before same e xs)
  first_placed d e [] b h = b
  first_placed d e (x ∷ xs) b h = placed (IsFirst (key d)) e x xs (λ _. b) (λ _ _. b) (λ _ _. h)

  inserts-swap : (d e : X) (xs : List X) → IsTrue (before (key d) (key e))
      → insert_by_key key before same d (insert_by_key key before same e xs) ≡ insert_by_key key before same e (insert_by_key key before same d xs)
  inserts-swap d e [] b = inserted_in_front d (e ∷ []) b ∙ sym (inserted_after e d [] b)
  inserts-swap d e (x ∷ xs) b =
      placed (λ ys. insert_by_key key before same d (insert_by_key key before same e (x ∷ xs)) ≡ insert_by_key key before same e ys) d x xs
      (λ first. inserted_in_front d (insert_by_key key before same e (x ∷ xs)) (first_placed d e (x ∷ xs) b first) ∙ sym (inserted_after e d (x ∷ xs) b))
      (λ _ s.
      let q = order.equal (key d) (key x) s in
      ap (insert_by_key key before same d) (inserted_after e x xs (subst (λ k. IsTrue (before k (key e))) q b))
      ∙ inserted_over d x (insert_by_key key before same e xs) q ∙ sym (inserted_after e d xs b))
      (λ late other.
      let before_d = order.total (key d) (key x) late other in
      let behind = order.transitive (key x) (key d) (key e) before_d b in
      ap (insert_by_key key before same d) (inserted_after e x xs behind) ∙ inserted_after d x (insert_by_key key before same e xs) before_d
      ∙ ap (λ ys. x ∷ ys) (inserts-swap d e xs b) ∙ sym (inserted_after e x (insert_by_key key before same d xs) behind))

  pub inserts-commute : (d e : X) (xs : List X) → same (key d) (key e) ≡ false
      → insert_by_key key before same d (insert_by_key key before same e xs) ≡ insert_by_key key before same e (insert_by_key key before same d xs)
  inserts-commute d e xs differ =
      let one = inserts-swap d e xs in
      let other = inserts-swap e d xs in
      let total = order.total (key d) (key e) in grind arith

-- ---- which elements stand there after one more is placed: at all other keys the same

module _ {X K : Type 0} (key : X → K) (before same : K → K → Bool) (order : StrictOrder before same)
    (new d : X) (apart : same (key new) (key d) ≡ false) where
  not_new : d ≡ new → ⊥
  not_new e = false≢true (sym (subst (λ x. same (key new) (key x) ≡ false) e apart) ∙ order.reflexive (key new))

  not_first : (xs : List X) → In (new ∷ xs) d → In xs d
  not_first xs (inl q) = absurd (not_new q)
  not_first xs (inr i) = i

  pub In-inserted : (xs : List X) → In xs d → In (insert_by_key key before same new xs) d
  In-inserted [] i = absurd i
  In-inserted (x ∷ xs) (inl q) = placed key before same order (λ ys. In ys d) new x xs
      (λ _. inr (inl q))
      (λ _ s. absurd (false≢true (sym apart ∙ subst (λ y. same (key new) (key y) ≡ true) (sym q) s)))
      (λ _ _. inl q)
  In-inserted (x ∷ xs) (inr i) = placed key before same order (λ ys. In ys d) new x xs
      (λ _. inr (inr i))
      (λ _ _. inr i)
      (λ _ _. inr (In-inserted xs i))

  pub In-from_inserted : (xs : List X) → In (insert_by_key key before same new xs) d → In xs d
  In-from_inserted [] i = not_first [] i
  In-from_inserted (x ∷ xs) i = placed key before same order (λ ys. In ys d → In (x ∷ xs) d) new x xs
      (λ _ j. not_first (x ∷ xs) j)
      (λ _ _ j. inr (not_first xs j))
      (λ _ _ j. ⊎_elim (λ q. inl q) (λ k. inr (In-from_inserted xs k)) j)
      i
