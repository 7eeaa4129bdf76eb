-- An edit changes no reply to a query that it doesn't concern.
use Rattle.std.proofs.Common.{◌≡◌, ◌==◌, ℕ, ◌+◌, Bool, true, false, ◌&&◌, not, List, [], ◌∷◌, refl, sym, ap, subst, ◌∙◌, arith}
use Rattle.std.specs.List.{filter, list_any}
use Rattle.std.proofs.lemmas.Bool.{both_ways, false_from_ne_true, not_from_false, or_parts, false≢true}
use Rattle.std.proofs.lemmas.Bool.Decides.{nat_tests}
use Rattle.std.proofs.lemmas.List.Elements.{filter_agree}
use Rattle.std.proofs.Math.Bool.{or-false}
use Rattle.dt_graph.specs.Graph.{Link, has_number, is_live}
use Rattle.dt_graph.specs.Below.{is_below}
use Rattle.dt_graph.specs.LinkChanges.{is_below_any, OthersKeepTheirLinks}
use Rattle.dt_graph.proofs.BelowSets.{below_any_trans, edited_is_below_any, others_stay_below, same_are_below_edited, same_below_class}
use Rattle.dt_graph.proofs.Effects.{live_after_add, live_after_drop}
use Rattle.dt_graph.proofs.InOrder.{placed}
use Rattle.dt_graph.proofs.ListMembers.{In, filter_agree_in, filter-weaker, list_any_agree_in, none_at, none_from}
use Rattle.dt_selectors.proofs.Arities.{adding, dropping}
use Rattle.dt_definitions.specs.Program.{Definition, Program, arity_of, is_definition, key_of, is_key_before, is_same_key, insert_definition, same_classes}
use Rattle.dt_definitions.specs.Step.{effect}
use Rattle.dt_definitions.specs.Laws.{LeadsTo}
use Rattle.dt_definitions.specs.Differing.{DifferOnlyAt, edited_by, redefined_by}
use Rattle.dt_definitions.specs.declared.definition_key.DefinitionKey.{DefinitionKey}
use Rattle.dt_definitions.specs.declared.edit.Edit.{Edit}
use Rattle.dt_definitions.specs.declared.edit.Edit.TheVariants as edit
use Rattle.dt_definitions.proofs.AnswerLaws.{ok_has_no_cause}
use Rattle.dt_definitions.proofs.BatchLaws.{batch_is_its_edits}
use Rattle.dt_definitions.proofs.DefinitionOrder.{key_order}
use Rattle.dt_definitions.proofs.Differing.{differ_by}
use Rattle.dt_scratch.specs.Query.{Query}
use Rattle.dt_scratch.specs.Resolve.{are_below, applicable, is_more_specific, minimal, first_dead, reply}
use Rattle.dt_scratch.specs.Locality.{meets, concerns, batch_concerns}
use Rattle.dt_scratch.specs.LocalityLaws.{EditsChangeWhatTheyConcern, EditsConcernTheSameAfter, BatchesChangeWhatTheyConcern}
use Rattle.dt_scratch.proofs.Parts.{applies, is_applicable}

-- ---- lists of classes none of which is at or below one whose links change

module _ (edited : List ℕ) (old new : List Link) (same : OthersKeepTheirLinks edited old new) where
  pub unmet_stay : (lows highs : List ℕ) → meets old edited lows ≡ false → are_below old lows highs ≡ are_below new lows highs
  unmet_stay (low ∷ lows) (high ∷ highs) unmet =
      let stays = others_stay_below edited old new same low high in
      let rest = unmet_stay lows highs in grind arith
  unmet_stay lows highs unmet = refl

  pub same_meet : (classes : List ℕ) → meets old edited classes ≡ meets new edited classes
  same_meet classes = list_any_agree_in (is_below_any old edited) (is_below_any new edited) classes
      (λ class _. same_are_below_edited edited old new same class)

-- what is above a list of classes of which none is met isn't met either
pub unmet_above : (edited : List ℕ) (links : List Link) (lows highs : List ℕ) →
    meets links edited lows ≡ false → are_below links lows highs ≡ true → meets links edited highs ≡ false
unmet_above edited links (low ∷ lows) (high ∷ highs) unmet below =
    let up = below_any_trans links edited low high in
    let rest = unmet_above edited links lows highs in grind arith
unmet_above edited links lows [] unmet below = refl
unmet_above edited links lows highs unmet below = absurd (cc)

-- ---- another graph

module _ (edited : List ℕ) (p q : Program) (same : OthersKeepTheirLinks edited p.graph.links q.graph.links)
    (query : Query) (unmet : meets p.graph.links edited query.classes ≡ false) where
  same_applicable : filter (applies q.graph.links query) p.definitions ≡ applicable p query
  same_applicable = filter_agree (applies q.graph.links query) (applies p.graph.links query)
      (λ d. ap (λ b. (d.selector == query.selector) && b)
      (sym (unmet_stay edited p.graph.links q.graph.links same query.classes d.classes unmet)))
      p.definitions

  same_order : (a b : Definition) → In (applicable p query) a →
      is_more_specific q.graph.links a b ≡ is_more_specific p.graph.links a b
  same_order a b i = ap (λ v. not (same_classes a.classes b.classes) && v)
      (sym (unmet_stay edited p.graph.links q.graph.links same a.classes b.classes
      (unmet_above edited p.graph.links query.classes a.classes unmet (is_applicable p query a i).below)))

  same_minimal : minimal q.graph.links (applicable p query) ≡ minimal p.graph.links (applicable p query)
  same_minimal = filter_agree_in _ _ (applicable p query)
      (λ d i. ap not (list_any_agree_in (λ other. is_more_specific q.graph.links other d)
      (λ other. is_more_specific p.graph.links other d) (applicable p query) (λ other j. same_order other d j)))

  module _ (live : (class : ℕ) → has_number edited class ≡ false → is_live p.graph class ≡ is_live q.graph class) where
    same_dead : (position : ℕ) (classes : List ℕ) → meets p.graph.links edited classes ≡ false →
        first_dead q.graph position classes ≡ first_dead p.graph position classes
    same_dead position [] away = refl
    same_dead position (class ∷ classes) away =
        let parts = or_parts (is_below_any p.graph.links edited class) (meets p.graph.links edited classes) away in
        let apart : has_number edited class ≡ false = false_from_ne_true (has_number edited class)
        (λ here. false≢true (sym parts.0 ∙ edited_is_below_any p.graph.links edited class here)) in
        rw (live class apart, same_dead (position + 1) classes parts.1) refl

    same_reply : p.definitions ≡ q.definitions → arity_of q query.selector ≡ arity_of p query.selector →
        reply q query ≡ reply p query
    same_reply definitions arity =
        rw (← definitions, arity, same_dead 1 query.classes unmet, same_applicable, same_minimal) refl

-- ---- other definitions

-- placing a definition changes nothing in what a filter keeps that passes over all at its selector and classes
filter-insert : (test : Definition → Bool) (new : Definition) →
    ((d : Definition) → is_definition new.selector new.classes d ≡ true → test d ≡ false) →
    (ds : List Definition) → filter test (insert_definition new ds) ≡ filter test ds
filter-insert test new none [] = rw (none new (key_order.reflexive (key_of new))) refl
filter-insert test new none (d ∷ ds) =
    placed key_of is_key_before is_same_key key_order (λ ys. filter test ys ≡ filter test (d ∷ ds)) new d ds
    (λ _. rw (none new (key_order.reflexive (key_of new))) refl)
    (λ _ same. rw (none new (key_order.reflexive (key_of new)), none d same) refl)
    (λ _ _. rw (filter-insert test new none ds) refl)

-- a definition at a key that the query isn't below isn't applicable to it
not_at_its_key : (links : List Link) (query : Query) (key : DefinitionKey) →
    ((key.selector == query.selector) && are_below links query.classes key.classes) ≡ false → (d : Definition) →
    is_definition key.selector key.classes d ≡ true → applies links query d ≡ false
not_at_its_key links query key apart d same =
    subst (λ (k : DefinitionKey). ((k.selector == query.selector) && are_below links query.classes k.classes) ≡ false)
    (key_order.equal key (key_of d) same) apart

-- ---- one edit

-- a query reaches up to a class where it meets the list of that class alone
one_is_met : (links : List Link) (class : ℕ) (lows : List ℕ) →
    meets links (class ∷ []) lows ≡ list_any (λ low. is_below links low class) lows
one_is_met links class lows = list_any_agree_in (is_below_any links (class ∷ [])) (λ low. is_below links low class) lows
    (λ low _. or-false (is_below links low class))

-- a query that an edit doesn't concern meets none of the classes that it edits
unmet : (links : List Link) (one : Edit) (query : Query) → concerns links one query ≡ false →
    meets links (edited_by one) query.classes ≡ false
unmet links (edit.AddClass class parents) query apart = one_is_met links class query.classes ∙ apart
unmet links (edit.DropClass class) query apart = one_is_met links class query.classes ∙ apart
unmet links (edit.Link class parent) query apart = one_is_met links class query.classes ∙ apart
unmet links (edit.Unlink class parent) query apart = one_is_met links class query.classes ∙ apart
unmet links one query apart = none_from (is_below_any links []) query.classes (λ low _. refl)

-- all other classes are live as before
same_live : (p : Program) (one : Edit) (class : ℕ) → has_number (edited_by one) class ≡ false →
    is_live p.graph class ≡ is_live (effect p one).graph class
same_live p (edit.AddClass added parents) class apart =
    let h = live_after_add p.graph added parents class in grind (arith, nat_tests)
same_live p (edit.DropClass dropped) class apart =
    let h = live_after_drop p.graph dropped class in grind (arith, nat_tests)
same_live p one class apart = refl

pub edits_change : EditsChangeWhatTheyConcern
edits_change p (edit.AddSelector selector arity) query apart =
    let same : arity_of (effect p (edit.AddSelector selector arity)) query.selector ≡ arity_of p query.selector =
    adding p.selectors (record { number = selector; arity = arity }) query.selector ∙ rw apart refl in rw same refl
edits_change p (edit.DropSelector selector) query apart =
    let same : arity_of (effect p (edit.DropSelector selector)) query.selector ≡ arity_of p query.selector =
    dropping p.selectors selector query.selector ∙ rw apart refl in rw same refl
edits_change p (edit.Define selector classes body) query apart =
    rw (filter-insert (applies p.graph.links query) (record { selector = selector; classes = classes; body = body })
    (not_at_its_key p.graph.links query (record { selector = selector; classes = classes }) apart) p.definitions) refl
edits_change p (edit.Undefine selector classes) query apart =
    rw (filter-weaker (applies p.graph.links query) (λ d. not (is_definition selector classes d)) p.definitions
    (λ d e. not_from_false _ (false_from_ne_true _ (λ f. both_ways (applies p.graph.links query d)
    (not_at_its_key p.graph.links query (record { selector = selector; classes = classes }) apart d f) e)))) refl
edits_change p one query apart =
    same_reply (edited_by one) p (effect p one) (differ_by p one).links query (unmet p.graph.links one query apart)
    (same_live p one) refl refl

-- ---- by the links before and after

pub edits_concern_the_same : EditsConcernTheSameAfter
edits_concern_the_same p (edit.AddSelector selector arity) query = refl
edits_concern_the_same p (edit.DropSelector selector) query = refl
edits_concern_the_same p (edit.Define selector classes body) query = refl
edits_concern_the_same p (edit.Undefine selector classes) query = refl
edits_concern_the_same p one query = list_any_agree_in _ _ query.classes
    (λ low _. same_below_class _ p.graph.links (effect p one).graph.links (differ_by p one).links low)

-- ---- batches

module _ (edited : List ℕ) (old new : List Link) (same : OthersKeepTheirLinks edited old new)
    (query : Query) (away : meets old edited query.classes ≡ false) where
  -- to a query that meets none of the classes whose links differ, each edit is of the same concern
  concern_stays : (one : Edit) → concerns old one query ≡ concerns new one query
  concern_stays (edit.AddSelector selector arity) = refl
  concern_stays (edit.DropSelector selector) = refl
  concern_stays (edit.Define selector classes body) =
      ap (λ b. (selector == query.selector) && b) (unmet_stay edited old new same query.classes classes away)
  concern_stays (edit.Undefine selector classes) =
      ap (λ b. (selector == query.selector) && b) (unmet_stay edited old new same query.classes classes away)
  concern_stays one = list_any_agree_in _ _ query.classes
      (λ low i. others_stay_below edited old new same low _ (none_at (is_below_any old edited) query.classes low i away))

by_edits : (p q : Program) (edits : List Edit) → LeadsTo p edits q → (query : Query) →
    batch_concerns p.graph.links edits query ≡ false → reply q query ≡ reply p query
by_edits p q [] same query apart = ap (λ r. reply r query) (sym same)
by_edits p q (one ∷ edits) leads query apart =
    let next : leads.0 ≡ effect p one = (ok_has_no_cause p leads.0 one leads.1).1 in
    let parts = or_parts (concerns p.graph.links one query) (batch_concerns p.graph.links edits query) apart in
    let differ = subst (λ r. DifferOnlyAt (edited_by one) (redefined_by one) p r) (sym next) (differ_by p one) in
    by_edits leads.0 q edits leads.2 query
    (sym (list_any_agree_in _ _ edits (λ other _. concern_stays (edited_by one) p.graph.links leads.0.graph.links
    differ.links query (unmet p.graph.links one query parts.0) other)) ∙ parts.1)
    ∙ ap (λ r. reply r query) next
    ∙ edits_change p one query parts.0

pub batches_change : BatchesChangeWhatTheyConcern
batches_change old new edits accepted query apart =
    by_edits old new edits (batch_is_its_edits old new edits accepted) query apart
