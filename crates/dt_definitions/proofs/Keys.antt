-- A list in strict order with an element more, and with one less: its length, and the keys that a test lets through.
use Rattle.std.proofs.Common.{◌≡◌, ◌+◌, Bool, true, false, not, cond, IsTrue, All, List, [], ◌∷◌, length, map, filter, refl, sym, ap, ◌∙◌, arith}
use Rattle.std.specs.Prelude.{IsSome}
use Rattle.std.specs.List.{list_any}
use Rattle.std.proofs.lemmas.Bool.{false≢true}
use Rattle.std.proofs.lemmas.List.Elements.{All-head, All-tail}
use Rattle.dt_graph.specs.InOrder.{StrictOrder, Ascends, insert_by_key, find_at, without}
use Rattle.dt_graph.proofs.InOrder.{Ascends-tail, before_first, none_listed, not_again, placed, without_none}

pub filter-absent : {X : Type 0} (p : X → Bool) (xs : List X) → list_any p xs ≡ false → filter (λ x. not (p x)) xs ≡ xs
filter-absent p [] h = refl
filter-absent p (x ∷ xs) h = let r = filter-absent p xs in grind arith

module _ {X K : Type 0} (key : X → K) (before same : K → K → Bool) (order : StrictOrder before same) where
  pub length-insert_new : (new : X) (xs : List X) → list_any (λ x. same (key new) (key x)) xs ≡ false
      → length (insert_by_key key before same new xs) ≡ length xs + 1
  length-insert_new new [] h = refl
  length-insert_new new (x ∷ xs) h = let r = length-insert_new new xs in grind arith

  pub length-insert_again : (new : X) (xs : List X) → Ascends key before xs → list_any (λ x. same (key new) (key x)) xs ≡ true
      → length (insert_by_key key before same new xs) ≡ length xs
  length-insert_again new [] u h = absurd (false≢true h)
  length-insert_again new (x ∷ xs) u h =
      let none = none_listed key before same order (key new) x xs u in
      let r = length-insert_again new xs (Ascends-tail key before same order x xs u) in grind arith

  pub length-without : (k : K) (xs : List X) → Ascends key before xs → list_any (λ x. same k (key x)) xs ≡ true
      → length (without key same k xs) + 1 ≡ length xs
  length-without k [] u h = absurd (false≢true h)
  length-without k (x ∷ xs) u h =
      let stays : IsTrue (same k (key x)) → without key same k xs ≡ xs = λ s. without_none key before same order k xs (not_again key before same order k x xs u s) in
      let r = length-without k xs (Ascends-tail key before same order x xs u) in grind arith

  -- ---- the keys that a test lets through

  module _ (test : K → Bool) where
    abbrev itself : K → K
    itself k = k

    abbrev pub keys : List X → List K
    keys xs = map key (filter (λ x. test (key x)) xs)

    -- a key that stands before all comes first
    before_keys : (k : K) (xs : List X) → All (λ x. IsTrue (before k (key x))) xs → insert_by_key itself before same k (keys xs) ≡ k ∷ keys xs
    before_keys k [] all = refl
    before_keys k (x ∷ xs) all =
        let b : before k (key x) ≡ true = All-head (λ y. IsTrue (before k (key y))) x xs all in
        let r = before_keys k xs (All-tail (λ y. IsTrue (before k (key y))) x xs all) in grind arith

    pub keys-insert : (new : X) (xs : List X) → Ascends key before xs
        → keys (insert_by_key key before same new xs) ≡ cond (test (key new)) (insert_by_key itself before same (key new) (keys xs)) (keys xs)
    keys-insert new [] u = grind arith
    keys-insert new (x ∷ xs) u =
        placed key before same order (λ ys. keys ys ≡ cond (test (key new)) (insert_by_key itself before same (key new) (keys (x ∷ xs))) (keys (x ∷ xs))) new x xs
        (λ b.
        let front = before_keys (key new) (x ∷ xs) (before_first key before same order (key new) x xs u b) in grind arith)
        (λ b s.
        let e = order.equal (key new) (key x) s in
        let t = ap test e in
        let f = order.reflexive (key new) in
        grind arith)
        (λ b s. let r = keys-insert new xs (Ascends-tail key before same order x xs u) in grind arith)

    -- a key that is there is there once
    pub keys-again : (new : X) (xs : List X) → Ascends key before xs → list_any (λ x. same (key new) (key x)) xs ≡ true
        → keys (insert_by_key key before same new xs) ≡ keys xs
    keys-again new [] u there = absurd (false≢true there)
    keys-again new (x ∷ xs) u there =
        placed key before same order (λ ys. keys ys ≡ keys (x ∷ xs)) new x xs
        (λ b. absurd (false≢true (sym (none_listed key before same order (key new) x xs u b) ∙ there)))
        (λ b s. let e = order.equal (key new) (key x) s in let t = ap test e in grind arith)
        (λ b s. let r = keys-again new xs (Ascends-tail key before same order x xs u) (rw s at there) in grind arith)

    pub keys-without : (k : K) (xs : List X)
        → keys (without key same k xs) ≡ cond (test k) (without itself same k (keys xs)) (keys xs)
    keys-without k [] = grind arith
    keys-without k (x ∷ xs) =
        let r = keys-without k xs in
        let own : IsTrue (same k (key x)) → test k ≡ test (key x) = λ s. ap test (order.equal k (key x) s) in grind arith

    pub keys-found : (k : K) (xs : List X) → test k ≡ true → list_any (λ x. same k (key x)) xs ≡ true
        → IsSome (find_at itself same k (keys xs))
    keys-found k [] h there = absurd (false≢true there)
    keys-found k (x ∷ xs) h there =
        let r = keys-found k xs h in
        let own : IsTrue (same k (key x)) → test k ≡ test (key x) = λ s. ap test (order.equal k (key x) s) in grind arith
