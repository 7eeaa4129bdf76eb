-- Laws of what is held after changes, which the kinds' own laws cite.
use Rattle.std.proofs.Common.{◌≡◌, ◌==◌, ℕ, ◌+◌, Bool, true, false, ◌||◌, if◌then◌else◌, List, [], ◌∷◌, length, ◌⊎◌, inl, inr, refl, sym, ap, subst, ◌∙◌, arith, All}
use Rattle.std.specs.Prelude.{nat_eq}
use Rattle.std.proofs.lemmas.Bool.{or_parts, and_parts, eqb-true, eq-eqb, true≢false}
use Rattle.std.proofs.lemmas.List.Elements.{All-head, All-tail}
use lib.Pointwise.{pointwise}
use Rattle.dt_scratch.specs.Query.{Query, arity_of_query, is_same_query}
use Rattle.dt_scratch.specs.declared.reply.Change.{Change}
use Rattle.dt_cells.specs.Regions.{place_of}
use Rattle.dt_cells.specs.Held.{Held, IsHeld, HasBodyInRange, held_after, IsStageableChange, is_changed, is_changed_place}

pub by_cases : {G : Type 0} (b : Bool) → (b ≡ true → G) → (b ≡ false → G) → G
by_cases true f g = f refl
by_cases false f g = g refl

pub or_true : (x y : Bool) → (x || y) ≡ true → (x ≡ true) ⊎ (y ≡ true)
or_true true y e = inl refl
or_true false y e = inr e

pub if_true : {T : Type 0} (b : Bool) (x y : T) → b ≡ true → (if b then x else y) ≡ x
if_true true x y e = refl
if_true false x y e = absurd (true≢false (sym e))

pub if_false : {T : Type 0} (b : Bool) (x y : T) → b ≡ false → (if b then x else y) ≡ y
if_false true x y e = absurd (true≢false e)
if_false false x y e = refl

-- ---- equal queries

same_classes : (c d : List ℕ) → length c ≡ length d → pointwise nat_eq c d ≡ true → c ≡ d
same_classes [] [] l e = refl
same_classes [] (y ∷ ys) l e = absurd (omega arith)
same_classes (x ∷ xs) [] l e = absurd (omega arith)
same_classes (x ∷ xs) (y ∷ ys) l e =
    let parts = and_parts (nat_eq x y) (pointwise nat_eq xs ys) e in
    let first : x ≡ y = eqb-true x y parts.0 in
    let rest : xs ≡ ys = same_classes xs ys (omega arith) parts.1 in cc

-- the test of equality tells equality
pub same_query : (a b : Query) → is_same_query a b ≡ true → a ≡ b
same_query a b e =
    let rest = (and_parts _ _ e).1 in
    let s : a.selector ≡ b.selector = eqb-true _ _ (and_parts _ _ e).0 in
    let l : arity_of_query a ≡ arity_of_query b = eqb-true _ _ (and_parts _ _ rest).0 in
    let c : a.classes ≡ b.classes = same_classes a.classes b.classes l (and_parts _ _ rest).1 in
    λ i. record { selector = s i; classes = c i }

-- ---- what is held after changes

-- what holds of held queries and of those of changes holds of the queries held after
pub after_keeps : (P : Query → Type 0) (held : Held) (changes : List Change) → ((q : Query) → IsHeld held q → P q)
    → All (λ change. P change.query) changes → (q : Query) → IsHeld (held_after held changes) q → P q
after_keeps P held [] before each q h = before q h
after_keeps P held (c ∷ cs) before each q h = by_cases (is_same_query c.query q)
    (λ t. subst P (same_query c.query q t) (All-head (λ change. P change.query) c cs each))
    (λ f. after_keeps P held cs before (All-tail (λ change. P change.query) c cs each) q
    (λ e. h (if_false (is_same_query c.query q) c.answer (held_after held cs q) f ∙ e)))

-- the bodies of answers stay in their range
pub body_after : (low high : ℕ) (held : Held) (changes : List Change) → ((q : Query) → HasBodyInRange (held q)) → All (IsStageableChange low high) changes
    → (q : Query) → HasBodyInRange (held_after held changes q)
body_after low high held [] before each q = before q
body_after low high held (c ∷ cs) before each q =
    elim (is_same_query c.query q) as (λ v. HasBodyInRange (if v then c.answer else held_after held cs q)) [
      | true ↦ (All-head (IsStageableChange low high) c cs each).body
      | false ↦ body_after low high held cs before (All-tail (IsStageableChange low high) c cs each) q
    ]

not_same : (a b : Query) (s : ℕ) → (a.selector == s) ≡ false → b.selector ≡ s → is_same_query a b ≡ false
not_same a b s e h = by_cases (is_same_query a b)
    (λ t. let same : a.selector ≡ b.selector = eqb-true _ _ (and_parts _ _ t).0 in
    absurd (true≢false (sym (eq-eqb a.selector s (same ∙ h)) ∙ e)))
    (λ f. f)

-- a selector without a change keeps its answers
pub unchanged_after : (held : Held) (changes : List Change) (s : ℕ) → is_changed changes s ≡ false → (q : Query) → q.selector ≡ s → held_after held changes q ≡ held q
unchanged_after held [] s e q h = refl
unchanged_after held (change ∷ changes) s e q h =
    let parts = or_parts (change.query.selector == s) (is_changed changes s) e in
    if_false (is_same_query change.query q) change.answer (held_after held changes q) (not_same change.query q s parts.0 h)
    ∙ unchanged_after held changes s parts.1 q h

same_place : (a s : ℕ) → (place_of a == place_of s) ≡ (a == s)
same_place a s = by_cases (a == s)
    (λ t. let e : a ≡ s = eqb-true a s t in eq-eqb (place_of a) (place_of s) (ap place_of e) ∙ sym t)
    (λ f. by_cases (place_of a == place_of s)
    (λ t. let e : 8192 + a ≡ 8192 + s = eqb-true _ _ t in
    let same : a ≡ s = omega (arith, e) in absurd (true≢false (sym (eq-eqb a s same) ∙ f)))
    (λ g. g ∙ sym f))

-- the place words of changes are those of their selectors
pub changed_place : (changes : List Change) (s : ℕ) → is_changed_place changes (place_of s) ≡ is_changed changes s
changed_place [] s = refl
changed_place (change ∷ changes) s =
    ap (λ v. v || is_changed_place changes (place_of s)) (same_place change.query.selector s)
    ∙ ap (λ v. (change.query.selector == s) || v) (changed_place changes s)
