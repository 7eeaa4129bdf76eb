-- What is told of one query.
use Rattle.std.proofs.Common.{◌≡◌, ◌≢◌, true, false, List, [], ◌∷◌, ◌++◌, inl, inr, refl, sym, ap, subst, ◌∙◌, append-nil, eqb-true, eq-eqb}
use Rattle.std.proofs.lemmas.Bool.{false≢true}
use Rattle.dt_graph.proofs.ListMembers.{by_cases, In}
use Rattle.dt_definitions.specs.Program.{Program}
use Rattle.dt_scratch.specs.declared.reply.Answer.{Answer}
use Rattle.dt_scratch.specs.declared.reply.Answer.TheVariants.{Method, NotUnderstood, Ambiguous}
use Rattle.dt_scratch.specs.declared.reply.Change.{Change}
use Rattle.dt_scratch.specs.Query.{Query}
use Rattle.dt_scratch.specs.Resolve.{cell}
use Rattle.dt_propagate.specs.Differences.{Differs}
use Rattle.dt_propagate.specs.Walk.{is_same_answer, told_change}
use Rattle.dt_propagate.proofs.GoneThrough.{TellsOnce}

pub same_answers : (a b : Answer) → is_same_answer a b ≡ true → a ≡ b
same_answers (Method a) (Method b) t = ap Method (eqb-true a b t)
same_answers (Method a) NotUnderstood t = absurd (false≢true t)
same_answers (Method a) Ambiguous t = absurd (false≢true t)
same_answers NotUnderstood (Method b) t = absurd (false≢true t)
same_answers NotUnderstood NotUnderstood t = refl
same_answers NotUnderstood Ambiguous t = absurd (false≢true t)
same_answers Ambiguous (Method b) t = absurd (false≢true t)
same_answers Ambiguous NotUnderstood t = absurd (false≢true t)
same_answers Ambiguous Ambiguous t = refl

same_itself : (a : Answer) → is_same_answer a a ≡ true
same_itself (Method a) = eq-eqb a a refl
same_itself NotUnderstood = refl
same_itself Ambiguous = refl

pub other_answers : (a b : Answer) → is_same_answer a b ≡ false → a ≢ b
other_answers a b f e = false≢true (sym f ∙ subst (λ c. is_same_answer a c ≡ true) e (same_itself a))

abbrev change_of : Program → Query → Change
change_of new query = record { query = query; answer = cell new query }

pub none_told : (old new : Program) (query : Query) → cell old query ≡ cell new query → told_change old new query ≡ []
none_told old new query e =
    let t : is_same_answer (cell old query) (cell new query) ≡ true =
    subst (λ c. is_same_answer (cell old query) c ≡ true) e (same_itself (cell old query)) in
    rw t refl

-- what was pushed is what is told
pub is_told : (old new : Program) (query : Query) (before after : List Change) →
    (cell old query ≡ cell new query → after ≡ before) →
    (cell old query ≢ cell new query → after ≡ before ++ record { query = query; answer = cell new query } ∷ []) →
    after ≡ before ++ told_change old new query
is_told old new query before after same differs =
    by_cases (is_same_answer (cell old query) (cell new query))
    (λ t. rw t (same (same_answers (cell old query) (cell new query) t) ∙ sym (append-nil before)))
    (λ f. rw f (differs (other_answers (cell old query) (cell new query) f)))

-- it is told of a query once, where its cells differ
pub told_once : (old new : Program) → TellsOnce (λ change. change.query) (told_change old new)
told_once old new query =
    by_cases (is_same_answer (cell old query) (cell new query))
    (λ t. inl (rw t refl))
    (λ f. inr (change_of new query, rw f refl, refl))

pub told_differs : (old new : Program) (query : Query) (x : Change) → In (told_change old new query) x →
    Differs old new query × (x ≡ record { query = query; answer = cell new query })
told_differs old new query x i =
    by_cases (is_same_answer (cell old query) (cell new query))
    (λ t. let j : In {T = Change} [] x = rw t at i in absurd j)
    (λ f. let j : In (change_of new query ∷ []) x = rw f at i in
    (other_answers (cell old query) (cell new query) f, one j))
  where
    one : In (change_of new query ∷ []) x → x ≡ change_of new query
    one (inl e) = e
    one (inr j) = absurd j

pub differs_told : (old new : Program) (query : Query) → Differs old new query → (x : Change) × In (told_change old new query) x
differs_told old new query differs =
    by_cases (is_same_answer (cell old query) (cell new query))
    (λ t. absurd (differs (same_answers (cell old query) (cell new query) t)))
    (λ f. (change_of new query, rw f (inl refl)))
