-- What is kept while a script is made, as it grows.
use Rattle.std.proofs.Common.{◌≡◌, ℕ, ◌+◌, ◌<◌, ◌≤◌, nat_lt, List, [], ◌∷◌, ◌++◌, length, get_or, sym, ap, ◌∙◌, length-append, arith, ⊎_elim}
use Rattle.std.proofs.lemmas.Bool.{cases_Bool, ltb-true}
use Rattle.std.proofs.lemmas.Bool.Decides.{nat_tests}
use Rattle.std.proofs.Math.ListN.{get_or-append}
use Rattle.std.proofs.Math.Seq.{get_or-append_seam}
use Rattle.dt_script.specs.Draw.{drawn, state_after}
use Rattle.dt_script.specs.GeneratedLines.{after_parents, first_parent, tuple_at, tuple_of, after_definition}
use Rattle.dt_script.specs.GeneratedLists.{HasFirstParents, HasTuples}

-- what holds of each place of a list from one on holds with one more item at the end
grown : {A : Type 0} (f : ℕ → A) (d : A) (from count : ℕ) (items next : List A) (item : A) → length items ≡ count → next ≡ items ++ item ∷ []
    → ((k : ℕ) → from ≤ k → k < count → get_or items k d ≡ f k) → (from ≤ count → item ≡ f count)
    → (k : ℕ) → from ≤ k → k < count + 1 → get_or next k d ≡ f k
grown f d from count items next item many is before last k low below = ⊎_elim
    (λ less. let under : k < count = ltb-true k count less in
    ap (λ l. get_or l k d) is ∙ get_or-append items (item ∷ []) d k (omega (arith, many, under)) ∙ before k low under)
    (λ not_less. let same : k ≡ count = grind (arith, nat_tests) in
    ap (λ l. get_or l k d) is ∙ ap (λ n. get_or (items ++ item ∷ []) n d) (same ∙ sym many) ∙ get_or-append_seam items item [] d
    ∙ last (omega (arith, low, same)) ∙ ap f (sym same))
    (cases_Bool (nat_lt k count))

one_longer : {A : Type 0} (count : ℕ) (items next : List A) (item : A) → length items ≡ count → next ≡ items ++ item ∷ [] → length next ≡ count + 1
one_longer count items next item many is = ap length is ∙ length-append items (item ∷ []) ∙ ap (λ n. n + 1) many

pub no_parents : (number : ℕ) (parents : List ℕ) → parents ≡ [] → HasFirstParents number 0 parents
no_parents number parents none = record {
  of_each = ap length none;
  are_first = λ class low below. absurd (omega (arith, below));
}

pub one_more_parent : (number classes parent state : ℕ) (parents next : List ℕ) → next ≡ parents ++ parent ∷ [] → (0 < classes → parent ≡ drawn state classes)
    → state ≡ state_after after_parents number 0 classes → HasFirstParents number classes parents → HasFirstParents number (classes + 1) next
one_more_parent number classes parent state parents next is last at has = record {
  of_each = one_longer classes parents next parent has.of_each is;
  are_first = grown (first_parent number) 0 1 classes parents next parent has.of_each is (λ k low below. has.are_first k (omega (arith, low)) below)
      (λ some. last (omega (arith, some)) ∙ ap (λ s. drawn s classes) at);
}

pub no_tuples : (classes selectors start : ℕ) (tuples : List (List ℕ)) → tuples ≡ [] → HasTuples classes selectors start 0 tuples
no_tuples classes selectors start tuples none = record {
  of_each = ap length none;
  are_theirs = λ definition below. absurd (omega (arith, below));
}

pub one_more_tuple : (classes selectors start count state : ℕ) (tuple : List ℕ) (tuples next : List (List ℕ)) → next ≡ tuples ++ tuple ∷ []
    → tuple ≡ tuple_of classes selectors state count → state ≡ state_after (after_definition selectors) start 0 count
    → HasTuples classes selectors start count tuples → HasTuples classes selectors start (count + 1) next
one_more_tuple classes selectors start count state tuple tuples next is last at has = record {
  of_each = one_longer count tuples next tuple has.of_each is;
  are_theirs = λ k below. grown (tuple_at classes selectors start) [] 0 count tuples next tuple has.of_each is (λ j low under. has.are_theirs j under)
      (λ some. last ∙ ap (λ s. tuple_of classes selectors s count) at) k (omega arith) below;
}
