-- A list in strict order is searched from its front, and changed at the place that the search finds.
use Rattle.std.proofs.Common.{◌≡◌, ℕ, zero, suc, ◌<◌, ◌≤◌, Bool, true, false, List, [], ◌∷◌, length, get_or, set, map, IsTrue, refl, sym, ap, subst, ◌∙◌, arith}
use Rattle.std.specs.List.{HoldsAt, insert, remove}
use Rattle.std.specs.Prelude.{Some, None, Ok, Err, is_some}
use Rattle.std.proofs.lemmas.List.{get_or_default}
use Rattle.std.proofs.lemmas.List.Elements.{All-tail}
use Rattle.dt_graph.specs.InOrder.{StrictOrder, Ascends, insert_by_key, find_at, without}
use Rattle.dt_graph.proofs.InOrder.{first_before_all, before_first, Ascends-tail, none_found, not_again, without_none}
use Rattle.dt_graph.proofs.ListMembers.{by_cases}
use Rattle.dt_definitions.specs.Search.{first_place, Searched}

module _ {X K : Type 0} (key : X → K) (before same : K → K → Bool) (order : StrictOrder before same) where
  -- ---- the order

  not_both : (a b : K) → IsTrue (before a b) → before b a ≡ false
  not_both a b h = let back = order.transitive a b a h in let own = order.irreflexive a in grind arith

  other : (a k : K) → IsTrue (before a k) → same k a ≡ false
  other a k h = let alike = order.equal k a in let own = order.irreflexive a in grind arith

  same_stays : (k a : K) → IsTrue (same k a) → before k a ≡ false
  same_stays k a s = subst (λ q. before k q ≡ false) (order.equal k a s) (order.irreflexive k)

  swapped : (a b : K) → same a b ≡ false → same b a ≡ false
  swapped a b h = let alike = order.equal b a in let own = order.reflexive a in grind arith

  -- ---- the first place

  pub first_place-within : (k : K) (xs : List X) → first_place key before k xs ≤ length xs
  first_place-within k [] = omega arith
  first_place-within k (x ∷ xs) = let r = first_place-within k xs in grind arith

  -- an element that doesn't stand before the key is at the first place or behind it
  pub first_place-at_most : (k : K) (xs : List X) (i : ℕ) (d : X)
      → i < length xs → before (key (get_or xs i d)) k ≡ false → first_place key before k xs ≤ i
  first_place-at_most k [] i d l b = absurd (omega arith)
  first_place-at_most k (x ∷ xs) zero d l b = rw b (omega arith)
  first_place-at_most k (x ∷ xs) (suc i) d l b = let r = first_place-at_most k xs i d (omega arith) b in grind arith

  -- and one that stands before it is in front of it
  pub first_place-above : (k : K) (xs : List X) (i : ℕ) (d : X)
      → Ascends key before xs → i < length xs → IsTrue (before (key (get_or xs i d)) k) → i < first_place key before k xs
  first_place-above k [] i d u l b = absurd (omega arith)
  first_place-above k (x ∷ xs) zero d u l b = rw b (omega arith)
  first_place-above k (x ∷ xs) (suc i) d u l b =
      let r = first_place-above k xs i d (Ascends-tail key before same order x xs u) (omega arith) b in
      let p = order.transitive (key x) (key (get_or xs i d)) k (first_before_all key before same order x xs u i d (omega arith)) b in
      rw p (omega arith)

  -- ---- what is found there

  found_first : (k : K) (xs : List X) (d : X)
      → Ascends key before xs → first_place key before k xs < length xs
      → IsTrue (same k (key (get_or xs (first_place key before k xs) d)))
      → find_at key same k xs ≡ Some (get_or xs (first_place key before k xs) d)
  found_first k [] d u l s = absurd (omega arith)
  found_first k (x ∷ xs) d u l s = by_cases (before (key x) k)
      (λ b. rw (b, other (key x) k b) (found_first k xs d (Ascends-tail key before same order x xs u) (omega (arith, rw b at l)) (rw b at s)))
      (λ b. let here : IsTrue (same k (key x)) = rw b at s in rw (b, here) refl)

  -- what stands behind the key's place is another
  none_behind : (k : K) (x : X) (xs : List X) → Ascends key before (x ∷ xs) → IsTrue (before k (key x)) → find_at key same k xs ≡ None
  none_behind k x xs u b = none_found key before same order k xs
      (All-tail (λ y. IsTrue (before k (key y))) x xs (before_first key before same order k x xs u b))

  absent_first : (k : K) (xs : List X) (d : X)
      → Ascends key before xs → first_place key before k xs < length xs
      → same k (key (get_or xs (first_place key before k xs) d)) ≡ false
      → find_at key same k xs ≡ None
  absent_first k [] d u l s = refl
  absent_first k (x ∷ xs) d u l s = by_cases (before (key x) k)
      (λ b. rw (other (key x) k b) (absent_first k xs d (Ascends-tail key before same order x xs u) (omega (arith, rw b at l)) (rw b at s)))
      (λ b. let apart : same k (key x) ≡ false = rw b at s in
      rw apart (none_behind k x xs u (order.total (key x) k b (swapped k (key x) apart))))

  pub absent_end : (k : K) (xs : List X) → length xs ≤ first_place key before k xs → find_at key same k xs ≡ None
  absent_end k [] l = refl
  absent_end k (x ∷ xs) l =
      let r = absent_end k xs in
      let n = other (key x) k in
      grind arith

  -- ---- changes there

  set_first : (new : X) (xs : List X) (d : X)
      → first_place key before (key new) xs < length xs
      → IsTrue (same (key new) (key (get_or xs (first_place key before (key new) xs) d)))
      → set xs (first_place key before (key new) xs) new ≡ insert_by_key key before same new xs
  set_first new [] d l s = absurd (omega arith)
  set_first new (x ∷ xs) d l s =
      let r = set_first new xs d in
      let a = not_both (key x) (key new) in
      let n = other (key x) (key new) in
      let f = same_stays (key new) (key x) in
      grind arith

  insert_first : (new : X) (xs : List X) → find_at key same (key new) xs ≡ None
      → insert xs (first_place key before (key new) xs) new ≡ insert_by_key key before same new xs
  insert_first new [] h = refl
  insert_first new (x ∷ xs) h =
      let r = insert_first new xs in
      let a = not_both (key x) (key new) in
      let n = other (key x) (key new) in
      let t = order.total (key x) (key new) in
      let w = swapped (key new) (key x) in
      grind arith

  remove_first : (k : K) (xs : List X) (d : X)
      → Ascends key before xs → first_place key before k xs < length xs
      → IsTrue (same k (key (get_or xs (first_place key before k xs) d)))
      → remove xs (first_place key before k xs) ≡ without key same k xs
  remove_first k [] d u l s = absurd (omega arith)
  remove_first k (x ∷ xs) d u l s = by_cases (before (key x) k)
      (λ b. rw (b, other (key x) k b) (ap (λ ys. x ∷ ys)
      (remove_first k xs d (Ascends-tail key before same order x xs u) (omega (arith, rw b at l)) (rw b at s))))
      (λ b. let here : IsTrue (same k (key x)) = rw b at s in
      rw (b, here) (sym (without_none key before same order k xs (not_again key before same order k x xs u here))))

  -- ---- the same, by what a search read and answered

  module _ (k : K) (xs : List X) (i : ℕ) (x : X) (u : Ascends key before xs) (e : i ≡ first_place key before k xs) (l : i < length xs)
      (r : x ≡ get_or xs i x) where
    pub found_read : true ≡ same k (key x) → Searched key before same k xs (Ok i)
    found_read s =
        let t : IsTrue (same k (key (get_or xs i x))) = subst (λ y. IsTrue (same k (key y))) r (sym s) in
        let at : HoldsAt (λ y. IsTrue (same k (key y))) xs i = λ d. rw (get_or_default xs i d x l) t in
        let b = found_first k xs x u (rw e at l) (rw e at t) in
        (e, l, at, ap is_some b)

    pub absent_read : false ≡ same k (key x) → Searched key before same k xs (Err i)
    absent_read s =
        let t : same k (key (get_or xs i x)) ≡ false = subst (λ y. same k (key y) ≡ false) r (sym s) in
        (e, absent_first k xs x u (rw e at l) (rw e at t))

  pub found_at : (k : K) (xs : List X) (i : ℕ) (x : X) → Ascends key before xs → x ≡ get_or xs i x
      → Searched key before same k xs (Ok i) → find_at key same k xs ≡ Some x
  found_at k xs i x u r f =
      let b = found_first k xs x u (rw f.0 at f.1) (rw f.0 at f.2 x) in
      b ∙ ap Some (sym (subst (λ j. x ≡ get_or xs j x) f.0 r))

  module _ (new : X) (xs : List X) (i : ℕ) where
    pub put_found : Searched key before same (key new) xs (Ok i) → set xs i new ≡ insert_by_key key before same new xs
    put_found f = rw f.0 (set_first new xs new (rw f.0 at f.1) (rw f.0 at f.2 new))

    pub put_absent : Searched key before same (key new) xs (Err i) → insert xs i new ≡ insert_by_key key before same new xs
    put_absent f = rw f.0 (insert_first new xs f.1)

  pub absent_within : (k : K) (xs : List X) (i : ℕ) → Searched key before same k xs (Err i) → i ≤ length xs
  absent_within k xs i f = rw f.0 (first_place-within k xs)

  pub remove_found : (k : K) (xs : List X) (i : ℕ) (d : X) → Ascends key before xs
      → Searched key before same k xs (Ok i) → remove xs i ≡ without key same k xs
  remove_found k xs i d u f = rw f.0 (remove_first k xs d u (rw f.0 at f.1) (rw f.0 at f.2 d))

-- ---- the same elements by another key

module _ {X Y K L : Type 0} (f : X → Y) (key : X → K) (before same : K → K → Bool) (key' : Y → L) (before' same' : L → L → Bool)
    (b : (x y : X) → before' (key' (f x)) (key' (f y)) ≡ before (key x) (key y))
    (s : (x y : X) → same' (key' (f x)) (key' (f y)) ≡ same (key x) (key y)) where
  pub map-insert : (new : X) (xs : List X)
      → map f (insert_by_key key before same new xs) ≡ insert_by_key key' before' same' (f new) (map f xs)
  map-insert new [] = refl
  map-insert new (x ∷ xs) =
      let r = map-insert new xs in let p = b new x in let q = s new x in grind arith

module _ {X Y K L : Type 0} (f : X → Y) (key : X → K) (same : K → K → Bool) (key' : Y → L) (same' : L → L → Bool) (k : K) (l : L)
    (s : (x : X) → same' l (key' (f x)) ≡ same k (key x)) where
  pub map-without : (xs : List X) → map f (without key same k xs) ≡ without key' same' l (map f xs)
  map-without [] = refl
  map-without (x ∷ xs) = let r = map-without xs in let q = s x in grind arith
