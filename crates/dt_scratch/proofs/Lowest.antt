-- Answers by the lowest of the applicable definitions.
use Rattle.std.proofs.Common.{◌≡◌, ◌==◌, ℕ, ◌<◌, ◌≤◌, Bool, true, false, ◌&&◌, not, IsTrue, List, [], ◌∷◌, length, inl, ⊎_elim, refl, sym, ap, subst, arith}
use Rattle.std.specs.List.{filter}
use Rattle.std.proofs.lemmas.Bool.{and_parts, and_from}
use Rattle.std.proofs.lemmas.List.Sums.{length-filter}
use Rattle.dt_graph.proofs.LawfulChanges.{antisymmetric}
use Rattle.dt_graph.proofs.ListMembers.{by_cases, In, All-In, All-from_In, Contains-from_In, In-from_Contains, In-filter, In-from_filter, none_from, filter-filter, filter_fewer}
use Rattle.dt_graph.proofs.SameLists.{same_list-self, same_list_equal}
use Rattle.dt_graph.proofs.Walks.{is_below_self, is_below_trans}
use Rattle.dt_selectors.specs.declared.limits.TheConstants.{BODIES}
use Rattle.dt_definitions.specs.Program.{Definition, Program, same_classes, is_definition}
use Rattle.dt_definitions.specs.Lawful.{Lawful, LawfulDefinition}
use Rattle.dt_definitions.proofs.DefinitionOrder.{defined-once}
use Rattle.dt_scratch.specs.declared.reply.Answer.TheVariants.{Method, NotUnderstood}
use Rattle.dt_scratch.specs.Query.{Query}
use Rattle.dt_scratch.specs.Resolve.{are_below, applicable, is_more_specific, is_more_specific_at, minimal, answer_by}
use Rattle.dt_scratch.specs.Laws.{LowestAnswers, MethodsAreInRange, MethodsAreLowest, NotUnderstoodWhereNone}
use Rattle.dt_scratch.proofs.MoreSpecific.{is_more_specific-transitive, more_specific-strict}
use Rattle.dt_scratch.proofs.Parts.{applies, is_applicable}
use Rattle.dt_scratch.proofs.StrictOrder.{IsStrict, alone, least, none_least, not_back, only_least}

-- which definitions give an answer
by_method : (ds : List Definition) (body : ℕ) → answer_by ds ≡ Method body → (d : Definition) × (ds ≡ d ∷ []) × (d.body ≡ body)
by_method [] body e = absurd (cc)
by_method (d ∷ []) body e = (d, refl, cc)
by_method (d ∷ d' ∷ ds) body e = absurd (cc)

by_none : (ds : List Definition) → answer_by ds ≡ NotUnderstood → ds ≡ []
by_none [] e = refl
by_none (d ∷ []) e = absurd (cc)
by_none (d ∷ d' ∷ ds) e = absurd (cc)

module _ (program : Program) (lawful : Lawful program) where
  abbrev less : Definition → Definition → Bool
  less = is_more_specific program.graph.links

  strict : IsStrict less
  strict = more_specific-strict program.graph.links (λ (d : Definition). d.classes)
      (is_more_specific-transitive program.graph.links
      (antisymmetric program.graph.links lawful.graph.no_cycle) (is_below_trans program.graph.links))

  are_below-refl : (xs : List ℕ) → are_below program.graph.links xs xs ≡ true
  are_below-refl [] = refl
  are_below-refl (x ∷ xs) = and_from _ _ (is_below_self program.graph.links x) (are_below-refl xs)

  abbrev IsBelowAll : List Definition → Definition → Type 0
  IsBelowAll found d = (other : Definition) → In found other → are_below program.graph.links d.classes other.classes ≡ true

  -- the only minimal one is below all
  only_is_below : (found : List Definition) (d : Definition) → minimal program.graph.links found ≡ d ∷ [] → In found d × IsBelowAll found d
  only_is_below found d e =
      let is_least : In (least less found) d = subst (λ ys. In ys d) (sym e) (inl refl) in (
        (In-from_filter _ found d is_least).0,
        λ other i. ⊎_elim (λ q. rw q (are_below-refl d.classes)) (λ l. (and_parts _ _ l).1)
            (only_least less strict found d is_least e other i),
      )

  -- one that is below all has none that is more specific
  below_is_least : (found : List Definition) (d : Definition) → In found d → IsBelowAll found d → In (least less found) d
  below_is_least found d i below =
      In-filter _ found d i (ap not (none_from (λ other. less other d) found (λ other j.
      by_cases (same_classes d.classes other.classes)
      (λ s. subst (λ cs. is_more_specific_at program.graph.links cs d.classes ≡ false)
      (same_list_equal d.classes other.classes s) (strict.irreflexive d))
      (λ s. not_back less strict d other (and_from _ _ (ap not s) (below other j))))))

  -- of the applicable definitions only one is at these classes
  one_at : (query : Query) (classes : List ℕ) → length (filter (λ d. same_classes classes d.classes) (applicable program query)) ≤ 1
  one_at query classes =
      let found : Definition → Bool = applies program.graph.links query in
      let at : Definition → Bool = λ d. same_classes classes d.classes in
      let fewer = filter_fewer (λ d. found d && at d) (is_definition query.selector classes) program.definitions
      (λ d i e. let h = and_parts (found d) (at d) e in
      and_from (d.selector == query.selector) (same_classes d.classes classes) (and_parts _ _ h.0).0
      (subst (λ cs. same_classes cs classes ≡ true) (same_list_equal classes d.classes h.1) (same_list-self classes))) in
      omega (
        arith,
        ap length (filter-filter found at program.definitions),
        fewer,
        length-filter (is_definition query.selector classes) program.definitions,
        defined-once query.selector classes program.definitions lawful.definitions_ascend,
      )

pub methods_are_lowest : MethodsAreLowest
methods_are_lowest program lawful query body e =
    let found = applicable program query in
    let h = by_method (minimal program.graph.links found) body e in
    let low = only_is_below program lawful found h.0 h.1 in
    (h.0, (Contains-from_In found h.0 low.0, All-from_In _ found low.1), h.2)

pub lowest_answers : LowestAnswers
lowest_answers program lawful query d lowest =
    let found = applicable program query in
    let links = program.graph.links in
    let i = In-from_Contains found d lowest.0 in
    let below : IsBelowAll program lawful found d =
    λ other j. All-In (λ x. IsTrue (are_below links d.classes x.classes)) found other lowest.1 j in
    let own = Contains-from_In _ d (In-filter (λ x. not (is_more_specific links d x)) found d i
    (ap not ((strict program lawful).irreflexive d))) in
    let few = filter_fewer (λ x. not (is_more_specific links d x)) (λ x. same_classes d.classes x.classes) found
    (λ x j e. let h = below x j in grind arith) in
    let one : length (filter (λ x. not (is_more_specific links d x)) found) ≡ 1 =
    omega (arith, own.1, few, one_at program lawful query d.classes) in
    ap answer_by (alone (is_more_specific links) (strict program lawful) found d (below_is_least program lawful found d i below) one)

pub not_understood_where_none : NotUnderstoodWhereNone
not_understood_where_none program lawful query = (
  (λ e. none_least (is_more_specific program.graph.links) (strict program lawful) (applicable program query) (by_none _ e)),
  (λ e. ap (λ found. answer_by (minimal program.graph.links found)) e),
)

-- the method is that of one of the program's definitions
pub methods_are_in_range : MethodsAreInRange
methods_are_in_range program lawful query body e =
    let lowest = methods_are_lowest program lawful query body e in
    let there = is_applicable program query lowest.0 (In-from_Contains (applicable program query) lowest.0 lowest.1.0) in
    subst (λ n. n < BODIES) lowest.2
    (All-In (LawfulDefinition program) program.definitions lowest.0 lawful.definitions_lawful there.defined).body_in_range
