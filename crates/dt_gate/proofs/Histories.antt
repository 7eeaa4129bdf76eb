-- Histories that are prefixes of one another, and the longer of two.
use Rattle.std.proofs.Common.{◌≡◌, ℕ, ◌≤◌, Bool, true, false, cond, nat_lt, List, [], ◌∷◌, ◌++◌, length, take, refl, sym, ap, ap₂, ◌∙◌, arith, append_assoc, append-nil, length-append, le-ltb, ltb-true, ltb-false}
use Rattle.std.proofs.lemmas.List.{take-append-le}
use mathlib.Core.List.{IsPrefix}
use Rattle.dt_gate.specs.Author.{longer}

module _ {I : Type 0} where
  pub prefix_same : (h : List I) → IsPrefix h h
  prefix_same h = ([], append-nil h)

  pub prefix_empty : (h : List I) → IsPrefix [] h
  prefix_empty h = (h, refl)

  pub prefix_trans : (a b c : List I) → IsPrefix a b → IsPrefix b c → IsPrefix a c
  prefix_trans a b c p q = (p.0 ++ q.0, sym (append_assoc a p.0 q.0) ∙ ap (λ z. z ++ q.0) p.1 ∙ q.1)

  pub prefix_more : (a b : List I) (x : I) → IsPrefix a b → IsPrefix a (b ++ x ∷ [])
  prefix_more a b x p = prefix_trans a b (b ++ x ∷ []) p (x ∷ [], refl)

  pub prefix_length : (a b : List I) → IsPrefix a b → length a ≤ length b
  prefix_length a b p = omega (arith, ap length p.1, length-append a p.0)

  -- the first entries stay where the history goes on
  pub take_prefix : (n : ℕ) (a b : List I) → IsPrefix a b → n ≤ length a → take n b ≡ take n a
  take_prefix n a b p h = ap (take n) (sym p.1) ∙ take-append-le n a p.0 h

  -- of two prefixes of one history the shorter is one of the longer
  pub prefix_between : (a b whole : List I) → IsPrefix a whole → IsPrefix b whole → length a ≤ length b → IsPrefix a b
  prefix_between [] b whole p q h = prefix_empty b
  prefix_between (x ∷ a) [] whole p q h = absurd (omega arith)
  prefix_between (x ∷ a) (y ∷ b) whole p q h =
      let same : ◌≡◌ {A = List I} (x ∷ (a ++ p.0)) (y ∷ (b ++ q.0)) = p.1 ∙ sym q.1 in
      let first : x ≡ y = cc same in
      let rest : a ++ p.0 ≡ b ++ q.0 = cc same in
      let next : IsPrefix a b = prefix_between a b (b ++ q.0) (p.0, rest) (q.0, refl) (omega arith) in
      (next.0, ap₂ (λ u us. u ∷ us) first next.1)

  -- the author's history is the longer one
  pub longer_mine : (mine other : List I) → IsPrefix other mine → longer mine other ≡ mine
  longer_mine mine other p = ap (λ b. cond b other mine) (le-ltb (length mine) (length other) (prefix_length other mine p))

  pub longer_is_longer : (mine other : List I) → length mine ≤ length (longer mine other)
  longer_is_longer mine other = go (nat_lt (length mine) (length other)) refl
    where
      go : (b : Bool) → nat_lt (length mine) (length other) ≡ b → length mine ≤ length {A = I} (cond b other mine)
      go true e = omega (arith, ltb-true (length mine) (length other) e)
      go false e = omega arith

  -- both are prefixes of the longer, and that is one of what both are prefixes of
  pub longer_whole : (mine other whole : List I) → IsPrefix mine whole → IsPrefix other whole → IsPrefix (longer mine other) whole
  longer_whole mine other whole p q = go (nat_lt (length mine) (length other))
    where
      go : (b : Bool) → IsPrefix (cond b other mine) whole
      go true = q
      go false = p

  pub longer_has_mine : (mine other whole : List I) → IsPrefix mine whole → IsPrefix other whole → IsPrefix mine (longer mine other)
  longer_has_mine mine other whole p q = go (nat_lt (length mine) (length other)) refl
    where
      go : (b : Bool) → nat_lt (length mine) (length other) ≡ b → IsPrefix mine (cond b other mine)
      go true e = prefix_between mine other whole p q (omega (arith, ltb-true (length mine) (length other) e))
      go false e = prefix_same mine

  pub longer_has_other : (mine other whole : List I) → IsPrefix mine whole → IsPrefix other whole → IsPrefix other (longer mine other)
  longer_has_other mine other whole p q = go (nat_lt (length mine) (length other)) refl
    where
      go : (b : Bool) → nat_lt (length mine) (length other) ≡ b → IsPrefix other (cond b other mine)
      go true e = prefix_same other
      go false e = prefix_between other mine whole q p (ltb-false (length mine) (length other) e)
