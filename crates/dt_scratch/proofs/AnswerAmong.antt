-- The answer by the most specific of the definitions that were seen so far, and by how many don't lose to it.
use Rattle.std.proofs.Common.{◌≡◌, ◌≢◌, ◌==◌, ℕ, ◌+◌, ◌<◌, ◌≤◌, Bool, true, false, IsTrue, not, cond, List, [], ◌∷◌, ◌++◌, map, length, take, get_or, inl, inr, refl, sym, ap, ◌∙◌, subst, filter}
use Rattle.std.specs.Prelude.{Option, None, Some}
use Rattle.std.specs.List.{Contains, list_any}
use Rattle.std.specs.Option.{MatchOption}
use Rattle.std.proofs.lemmas.Bool.{or_from, both_ways, eq-eqb, false_from_ne_true, ne_eqb}
use Rattle.std.proofs.lemmas.List.{take_all}
use Rattle.std.proofs.lemmas.List.Elements.{filter_agree, filter_more, Contains-append_left, Contains-push}
use Rattle.std.proofs.lemmas.List.Folds.{list_any-append}
use Rattle.std.proofs.lemmas.List.Sums.{length-filter}
use Rattle.dt_graph.specs.Graph.{Link}
use Rattle.dt_graph.proofs.ListMembers.{In, In-filter, In-from_Contains, filter-filter, filter-map, list_any-map, none_at, none_from}
use Rattle.dt_definitions.specs.SelectorLists.{definition_of, with_selector}
use Rattle.dt_definitions.specs.declared.defined.Defined.{Defined}
use Rattle.dt_scratch.specs.declared.reply.Answer.TheVariants.{Method, NotUnderstood, Ambiguous}
use Rattle.dt_scratch.specs.Resolve.{are_below, is_more_specific, is_more_specific_at, minimal, answer_by}
use Rattle.dt_scratch.specs.Among.{answer_among, applicable_among, beats, count_unbeaten, IsAlone, is_better, IsTransitive}
use Rattle.dt_scratch.proofs.MoreSpecific.{more_specific-strict}
use Rattle.dt_scratch.proofs.StrictOrder.{IsStrict, none_less, least, alone, leads, lower_is_alone, stays_alone}

-- whether one definition is more specific than another, and whether one of the list is
abbrev pub more_specific : List Link → Defined → Defined → Bool
more_specific links a b = is_more_specific_at links a.classes b.classes

abbrev pub is_beaten : List Link → List Defined → Defined → Bool
is_beaten links found d = list_any (λ other. more_specific links other d) found

-- it is one of the definitions, and none of them is more specific; where it is known to be the lowest, it is the only
-- one that doesn't lose to it
pub record IsBest (links : List Link) (found : List Defined) (best : Option Defined) (known : Bool) : Type 0 where
  pub unbeaten : MatchOption best (found ≡ []) (λ b. Contains found b × (is_beaten links found b ≡ false))
  pub alone : IsTrue known → MatchOption best (Unit {0}) (λ b. length (filter (λ d. not (more_specific links b d)) found) ≡ 1)

-- one more definition
module _ (links : List Link) (chains : IsTransitive links) (found more : List Defined) (d : Defined)
    (is_more : more ≡ found ++ d ∷ []) where
  strict : IsStrict (more_specific links)
  strict = more_specific-strict links (λ (x : Defined). x.classes) chains

  is_beaten-push : (b : Defined) → is_beaten links found b ≡ false → more_specific links d b ≡ false →
      is_beaten links (found ++ d ∷ []) b ≡ false
  is_beaten-push b e f = list_any-append _ found (d ∷ []) ∙ or_from _ _ e (or_from _ _ f refl)

  -- which is more specific than the best so far
  pub takes : (best : Option Defined) (known : Bool) → IsBest links found best known → is_better links d best ≡ true →
      IsBest links more (Some d) known
  takes None known h e = rw (is_more, h.unbeaten) (record {
    unbeaten = (Contains-push [] d, or_from _ _ (strict.irreflexive d) refl);
    alone = λ _. rw (strict.irreflexive d) refl;
  })
  takes (Some b) known h e = rw is_more (record {
    unbeaten = (
      Contains-push found d,
      is_beaten-push d (none_from _ found (λ x i. false_from_ne_true _ (λ f.
          both_ways _ (none_at (λ other. more_specific links other b) found x i h.unbeaten.1) (strict.transitive x d b f e))))
          (strict.irreflexive d),
    );
    alone = λ k. lower_is_alone (more_specific links) strict found b (In-from_Contains found b h.unbeaten.0) d (h.alone k) e;
  })

  -- which isn't
  pub keeps : (best : Option Defined) (known still : Bool) → IsBest links found best known → is_better links d best ≡ false →
      (IsTrue still → IsTrue known × (beats links best d ≡ true)) → IsBest links more best still
  keeps None known still h e beaten = absurd (cc)
  keeps (Some b) known still h e beaten = rw is_more (record {
    unbeaten = (Contains-append_left found (d ∷ []) b h.unbeaten.0, is_beaten-push b h.unbeaten.1 e);
    alone = λ k. stays_alone (more_specific links) strict found b d (h.alone (beaten k).0) (beaten k).1;
  })

module _ (links : List Link) (classes : List ℕ) (defined : List Defined) (i : ℕ) where
  -- what one more definition adds to the applicable ones
  pub one_more : (d : Defined) → i < length defined → d ≡ get_or defined i d → (b : Bool) → are_below links classes d.classes ≡ b →
      applicable_among links classes (take (i + 1) defined) ≡ applicable_among links classes (take i defined) ++ cond b (d ∷ []) []
  one_more d within is b e = filter_more (λ x. are_below links classes x.classes) defined i d within ∙ rw (← is, e) refl

  -- the best of all
  pub all_seen : (best : Option Defined) (known : Bool) → length defined ≤ i →
      IsBest links (applicable_among links classes (take i defined)) best known →
      IsBest links (applicable_among links classes defined) best known
  all_seen best known e h = subst (λ xs. IsBest links (applicable_among links classes xs) best known) (take_all i defined e) h

-- how many applicable definitions don't lose to one
pub unbeaten-counted : (links : List Link) (classes : List ℕ) (defined : List Defined) (b : Defined) →
    length (filter (λ d. not (more_specific links b d)) (applicable_among links classes defined))
    ≡ count_unbeaten links classes b defined
unbeaten-counted links classes defined b =
    ap length (filter-filter (λ d. are_below links classes d.classes) (λ d. not (more_specific links b d)) defined)
    ∙ length-filter _ defined

pub found_lowest : (links : List Link) (classes : List ℕ) (defined : List Defined) (best : Option Defined) →
    IsBest links (applicable_among links classes defined) best true → IsAlone links classes defined best
found_lowest links classes defined None h = tt
found_lowest links classes defined (Some b) h = sym (unbeaten-counted links classes defined b) ∙ h.alone refl

-- ---- the answer

-- the answer is by those that have none more specific, with the selector put back, whatever the selector's number
answer_among-map : (links : List Link) (classes : List ℕ) (selector : ℕ) (defined : List Defined) →
    answer_among links classes (with_selector selector defined)
    ≡ answer_by (with_selector selector (least (more_specific links) (applicable_among links classes defined)))
answer_among-map links classes selector defined =
    let f = definition_of selector in
    let found = applicable_among links classes defined in
    ap answer_by (ap (minimal links) (filter-map f (λ d. are_below links classes d.classes) defined)
    ∙ filter-map f (λ d. not (list_any (λ other. is_more_specific links other d) (map f found))) found
    ∙ ap (map f) (filter_agree _ (none_less (more_specific links) found)
    (λ d. ap not (list_any-map f (λ other. is_more_specific links other (f d)) found)) found))

module _ (links : List Link) (chains : IsTransitive links) (selector : ℕ) (found : List Defined) (best : Defined)
    (is_least : In (least (more_specific links) found) best) where
  abbrev count : ℕ
  count = length (filter (λ d. not (more_specific links best d)) found)

  by_count : (ds : List Defined) → least (more_specific links) found ≡ ds → In ds best →
      answer_by (with_selector selector ds) ≡ cond (count == 1) (Method best.body) Ambiguous
  by_count [] e i = absurd i
  by_count (d ∷ []) e (inl q) =
      let one = leads (more_specific links) (more_specific-strict links (λ (x : Defined). x.classes) chains) found best is_least
      (e ∙ ap (λ v. v ∷ []) (sym q)) in
      rw (eq-eqb _ 1 one) (ap (λ v. Method v.body) (sym q))
  by_count (d ∷ []) e (inr i) = absurd i
  by_count (d ∷ d' ∷ ds) e i =
      let more : count ≢ 1 = λ one.
      let f = sym e
      ∙ alone (more_specific links) (more_specific-strict links (λ (x : Defined). x.classes) chains) found best is_least one in
      cc in
      rw (ne_eqb _ 1 more) refl

-- the answer by a definition that no other applicable one beats
pub answered : (links : List Link) → IsTransitive links →
    (classes : List ℕ) (selector : ℕ) (defined : List Defined) (best : Defined) →
    Contains (applicable_among links classes defined) best →
    is_beaten links (applicable_among links classes defined) best ≡ false →
    answer_among links classes (with_selector selector defined)
    ≡ cond (count_unbeaten links classes best defined == 1) (Method best.body) Ambiguous
answered links chains classes selector defined best contains not_beaten =
    let found = applicable_among links classes defined in
    let is_least = In-filter (none_less (more_specific links) found) found best
    (In-from_Contains found best contains) (ap not not_beaten) in
    answer_among-map links classes selector defined
    ∙ by_count links chains selector found best is_least (least (more_specific links) found) refl is_least
    ∙ ap (λ n. cond (n == 1) (Method best.body) Ambiguous) (unbeaten-counted links classes defined best)

-- where none is applicable
pub not_understood : (links : List Link) (classes : List ℕ) (selector : ℕ) (defined : List Defined) →
    applicable_among links classes defined ≡ [] →
    answer_among links classes (with_selector selector defined) ≡ NotUnderstood
not_understood links classes selector defined e = rw (answer_among-map links classes selector defined, e) refl
