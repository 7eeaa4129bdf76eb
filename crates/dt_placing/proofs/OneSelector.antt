-- The changes of one selector, after those of others.
use Rattle.std.proofs.Common.{◌≡◌, ◌≢◌, ◌==◌, ℕ, Bool, true, false, ◌||◌, if◌then◌else◌, List, [], ◌∷◌, ◌++◌, refl, sym, ap, ◌∙◌, All}
use Rattle.std.proofs.lemmas.Bool.{or_parts, eqb-true, eq-eqb, true≢false}
use Rattle.std.proofs.lemmas.List.Elements.{All-head, All-tail}
use Rattle.dt_scratch.specs.Query.{Query, is_same_query}
use Rattle.dt_scratch.specs.declared.reply.Answer.{Answer}
use Rattle.dt_scratch.specs.declared.reply.Change.{Change}
use Rattle.dt_cells.specs.Held.{Held, held_after, is_changed}
use Rattle.dt_cells.specs.HeldLaws.{by_cases, if_false, same_query, unchanged_after}

pub changed_append : (done own : List Change) (s : ℕ) → is_changed (done ++ own) s ≡ (is_changed done s || is_changed own s)
changed_append [] own s = refl
changed_append (c ∷ cs) own s = ap (λ b. (c.query.selector == s) || b) (changed_append cs own s) ∙ or_assoc (c.query.selector == s) (is_changed cs s) (is_changed own s)
  where
    or_assoc : (a b c : Bool) → (a || (b || c)) ≡ ((a || b) || c)
    or_assoc true b c = refl
    or_assoc false b c = refl

pub others_unchanged : (own : List Change) (s t : ℕ) → All (λ change. change.query.selector ≡ s) own → t ≢ s → is_changed own t ≡ false
others_unchanged [] s t each apart = refl
others_unchanged (c ∷ cs) s t each apart = by_cases (c.query.selector == t)
    (λ e. absurd (apart (sym (eqb-true c.query.selector t e) ∙ All-head (λ (change : Change). change.query.selector ≡ s) c cs each)))
    (λ f. ap (λ b. b || is_changed cs t) f ∙ others_unchanged cs s t (All-tail (λ (change : Change). change.query.selector ≡ s) c cs each) apart)

-- what is held after both of a selector without a change in the second is what is held after the first
pub after_others : (held : Held) (done own : List Change) (q : Query) → is_changed own q.selector ≡ false → held_after held (done ++ own) q ≡ held_after held done q
after_others held [] own q e = unchanged_after held own q.selector e q refl
after_others held (c ∷ cs) own q e = ap (λ (v : Answer). if is_same_query c.query q then c.answer else v) (after_others held cs own q e)

-- and of one without a change in the first what is held after the second
pub after_own : (held : Held) (done own : List Change) (q : Query) → is_changed done q.selector ≡ false → held_after held (done ++ own) q ≡ held_after held own q
after_own held [] own q e = refl
after_own held (c ∷ cs) own q e =
    let parts = or_parts (c.query.selector == q.selector) (is_changed cs q.selector) e in
    if_false (is_same_query c.query q) c.answer (held_after held (cs ++ own) q)
    (by_cases (is_same_query c.query q)
    (λ t. absurd (true≢false (sym (eq-eqb c.query.selector q.selector (ap (λ (r : Query). r.selector) (same_query c.query q t))) ∙ parts.0)))
    (λ f. f))
    ∙ after_own held cs own q parts.1
