-- What each part of a pair holds, and what changes make of it.
use Rattle.std.proofs.Common.{◌≡◌, ◌==◌, ℕ, ◌≤◌, Bool, true, false, not, cond, if◌then◌else◌, List, [], ◌∷◌, inl, inr, refl, sym, ap, subst, ◌∙◌, arith, All, filter}
use mathlib.Core.Path.{fun_ext}
use Rattle.std.proofs.lemmas.Bool.{or_parts, or_from, or_left, or_right, and_parts, eqb-true, eq-eqb, true≢false}
use Rattle.std.proofs.lemmas.List.Elements.{All-nil, All-cons, All-head, All-tail}
use Rattle.std.proofs.lemmas.List.Kept.{IsStrictlySortedBy-filter}
use Rattle.dt_scratch.specs.Query.{Query, arity_of_query, is_same_query, query_order}
use Rattle.dt_scratch.specs.declared.reply.Answer.{Answer}
use Rattle.dt_scratch.specs.declared.reply.Answer.TheVariants.{NotUnderstood}
use Rattle.dt_scratch.specs.declared.reply.Change.{Change}
use Rattle.dt_cells.specs.Regions.{place_of}
use Rattle.dt_cells.specs.Held.{Held, none_held, IsHeld, held_after, HasOneArity, HasFewRows, most_rows, IsStageable, IsStageableChange, is_changed, is_changed_place}
use Rattle.dt_cells.specs.HeldLaws.{by_cases, or_true, if_true, if_false}
use Rattle.dt_cells.specs.Pair.{is_single, single_held, multi_held, single_changes, multi_changes}

-- ---- what each part holds

pub single_at : (held : Held) (q : Query) → is_single q ≡ true → single_held held q ≡ held q
single_at held q e = if_true (is_single q) (held q) NotUnderstood e

pub multi_at : (held : Held) (q : Query) → is_single q ≡ false → multi_held held q ≡ held q
multi_at held q e = if_false (is_single q) NotUnderstood (held q) e

pub held_of_single : (held : Held) (q : Query) → IsHeld (single_held held) q → IsHeld held q × (is_single q ≡ true)
held_of_single held q h = by_cases (is_single q)
    (λ t. ((λ e. h (single_at held q t ∙ e)), t))
    (λ f. absurd (h (if_false (is_single q) (held q) NotUnderstood f)))

pub held_of_multi : (held : Held) (q : Query) → IsHeld (multi_held held) q → IsHeld held q × (is_single q ≡ false)
held_of_multi held q h = by_cases (is_single q)
    (λ t. absurd (h (if_true (is_single q) NotUnderstood (held q) t)))
    (λ f. ((λ e. h (multi_at held q f ∙ e)), f))

if_same : {T : Type 0} (b : Bool) (x : T) → (if b then x else x) ≡ x
if_same true x = refl
if_same false x = refl

pub single_none : single_held none_held ≡ none_held
single_none = fun_ext (λ q. if_same (is_single q) NotUnderstood)

pub multi_none : multi_held none_held ≡ none_held
multi_none = fun_ext (λ q. if_same (is_single q) NotUnderstood)

-- ---- what each part holds after its changes is its part of what is held after the changes

single_of_same : (a b : Query) → is_same_query a b ≡ true → is_single a ≡ is_single b
single_of_same a b e =
    let arities : arity_of_query a ≡ arity_of_query b = eqb-true _ _ (and_parts _ _ (and_parts _ _ e).1).0 in
    ap (λ n. n == 1) arities

single_step : (of_change of_query same : Bool) → (same ≡ true → of_change ≡ of_query) → (a later now : Answer)
    → now ≡ (if of_query then later else NotUnderstood)
    → (if of_change then (if same then a else now) else now) ≡ (if of_query then (if same then a else later) else NotUnderstood)
single_step true true true f a later now e = refl
single_step true true false f a later now e = e
single_step true false true f a later now e = absurd (true≢false (f refl))
single_step true false false f a later now e = e
single_step false true true f a later now e = absurd (true≢false (sym (f refl)))
single_step false true false f a later now e = e
single_step false false true f a later now e = e
single_step false false false f a later now e = e

multi_step : (of_change of_query same : Bool) → (same ≡ true → of_change ≡ of_query) → (a later now : Answer)
    → now ≡ (if of_query then NotUnderstood else later)
    → (if not of_change then (if same then a else now) else now) ≡ (if of_query then NotUnderstood else (if same then a else later))
multi_step true true true f a later now e = e
multi_step true true false f a later now e = e
multi_step true false true f a later now e = absurd (true≢false (f refl))
multi_step true false false f a later now e = e
multi_step false true true f a later now e = absurd (true≢false (sym (f refl)))
multi_step false true false f a later now e = e
multi_step false false true f a later now e = refl
multi_step false false false f a later now e = e

after_if : (b : Bool) (held : Held) (change : Change) (changes : List Change) (q : Query)
    → held_after held (cond b (change ∷ changes) changes) q
    ≡ (if b then (if is_same_query change.query q then change.answer else held_after held changes q) else held_after held changes q)
after_if true held change changes q = refl
after_if false held change changes q = refl

single_after_at : (held : Held) (changes : List Change) (q : Query)
    → held_after (single_held held) (single_changes changes) q ≡ single_held (held_after held changes) q
single_after_at held [] q = refl
single_after_at held (change ∷ changes) q =
    after_if (is_single change.query) (single_held held) change (single_changes changes) q
    ∙ single_step (is_single change.query) (is_single q) (is_same_query change.query q) (single_of_same change.query q)
    change.answer (held_after held changes q) _ (single_after_at held changes q)

multi_after_at : (held : Held) (changes : List Change) (q : Query)
    → held_after (multi_held held) (multi_changes changes) q ≡ multi_held (held_after held changes) q
multi_after_at held [] q = refl
multi_after_at held (change ∷ changes) q =
    after_if (not (is_single change.query)) (multi_held held) change (multi_changes changes) q
    ∙ multi_step (is_single change.query) (is_single q) (is_same_query change.query q) (single_of_same change.query q)
    change.answer (held_after held changes q) _ (multi_after_at held changes q)

pub single_after : (held : Held) (changes : List Change) → held_after (single_held held) (single_changes changes) ≡ single_held (held_after held changes)
single_after held changes = fun_ext (single_after_at held changes)

pub multi_after : (held : Held) (changes : List Change) → held_after (multi_held held) (multi_changes changes) ≡ multi_held (held_after held changes)
multi_after held changes = fun_ext (multi_after_at held changes)

-- ---- selectors with a change

pub unchanged_filter : (p : Change → Bool) (changes : List Change) (s : ℕ) → is_changed changes s ≡ false → is_changed (filter p changes) s ≡ false
unchanged_filter p [] s e = refl
unchanged_filter p (change ∷ changes) s e =
    let parts = or_parts (change.query.selector == s) (is_changed changes s) e in
    let rest = unchanged_filter p changes s parts.1 in
    elim (p change) as (λ v. is_changed (cond v (change ∷ filter p changes) (filter p changes)) s ≡ false)
    [ true ↦ or_from _ _ parts.0 rest | false ↦ rest ]

pub changed_at : (changes : List Change) (address : ℕ) → is_changed_place changes address ≡ true
    → (s : ℕ) × (is_changed changes s ≡ true) × (place_of s ≡ address)
changed_at [] address e = absurd (true≢false (sym e))
changed_at (change ∷ changes) address e = elim (or_true _ _ e) [
  | inl t ↦ (change.query.selector, or_left _ _ (eq-eqb change.query.selector change.query.selector refl), eqb-true _ _ t)
  | inr t ↦ let rest = changed_at changes address t in (rest.0, or_right _ _ rest.1, rest.2)
]

-- ---- what is staged in each part

few_of : (held other : Held) (most : ℕ) → ((q : Query) → IsHeld other q → IsHeld held q) → HasFewRows most held → HasFewRows most other
few_of held other most among few = (few.0, few.1, λ q n h lt. few.2 q n (among q h) lt)

one_of : (held other : Held) → ((q : Query) → IsHeld other q → IsHeld held q) → HasOneArity held → HasOneArity other
one_of held other among one q r hq hr same = one q r (among q hq) (among r hr) same

single_each : (low high : ℕ) (changes : List Change) → All (IsStageableChange low high) changes → All (IsStageableChange low 1) (single_changes changes)
single_each low high [] each = All-nil (IsStageableChange low 1)
single_each low high (change ∷ changes) each =
    let h = All-head (IsStageableChange low high) change changes each in
    let rest = single_each low high changes (All-tail (IsStageableChange low high) change changes each) in
    by_cases (is_single change.query)
    (λ t. let one : arity_of_query change.query ≡ 1 = eqb-true _ _ t in
    rw t (All-cons (IsStageableChange low 1) change (single_changes changes)
    (record { least = h.least; greatest = omega (arith, one); range = h.range; body = h.body }) rest))
    (λ f. rw f rest)

multi_each : (low high : ℕ) (changes : List Change) → 1 ≤ low → All (IsStageableChange low high) changes → All (IsStageableChange 2 high) (multi_changes changes)
multi_each low high [] some each = All-nil (IsStageableChange 2 high)
multi_each low high (change ∷ changes) some each =
    let h = All-head (IsStageableChange low high) change changes each in
    let rest = multi_each low high changes some (All-tail (IsStageableChange low high) change changes each) in
    by_cases (is_single change.query)
    (λ t. rw t rest)
    (λ f. let more : 2 ≤ arity_of_query change.query = two_or_more (arity_of_query change.query) (omega (arith, some, h.least)) f in
    rw f (All-cons (IsStageableChange 2 high) change (multi_changes changes)
    (record { least = more; greatest = h.greatest; range = h.range; body = h.body }) rest))
  where
    two_or_more : (n : ℕ) → 1 ≤ n → (n == 1) ≡ false → 2 ≤ n
    two_or_more n some f = grind arith

pub single_stageable : (low high : ℕ) (held : Held) (changes : List Change) → IsStageable low high held changes
    → IsStageable low 1 (single_held held) (single_changes changes)
single_stageable low high held changes able =
    let after : Held = held_after held changes in
    let own : Held = held_after (single_held held) (single_changes changes) in
    let among : (q : Query) → IsHeld own q → IsHeld after q =
    λ q h. (held_of_single after q (subst (λ (v : Held). IsHeld v q) (single_after held changes) h)).0 in
    record {
      ascending = IsStrictlySortedBy-filter (λ a b. query_order a.query b.query) (λ change. is_single change.query) changes able.ascending;
      each = single_each low high changes able.each;
      one_arity = one_of after own among able.one_arity;
      few_rows = few_of after own most_rows among able.few_rows;
    }

pub multi_stageable : (low high : ℕ) (held : Held) (changes : List Change) → 1 ≤ low → IsStageable low high held changes
    → IsStageable 2 high (multi_held held) (multi_changes changes)
multi_stageable low high held changes some able =
    let after : Held = held_after held changes in
    let own : Held = held_after (multi_held held) (multi_changes changes) in
    let among : (q : Query) → IsHeld own q → IsHeld after q =
    λ q h. (held_of_multi after q (subst (λ (v : Held). IsHeld v q) (multi_after held changes) h)).0 in
    record {
      ascending = IsStrictlySortedBy-filter (λ a b. query_order a.query b.query) (λ change. not (is_single change.query)) changes able.ascending;
      each = multi_each low high changes some able.each;
      one_arity = one_of after own among able.one_arity;
      few_rows = few_of after own most_rows among able.few_rows;
    }
