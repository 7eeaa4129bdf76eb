-- Each edit that was made is undone by its inverse, which isn't refused.
use Rattle.std.proofs.Common.{◌≡◌, ℕ, Bool, true, false, not, List, [], ◌∷◌, ◌++◌, length, Option, None, Some, Ok, find, filter, is_some, IsTrue, All, refl, sym, ap, subst, ◌∙◌, arith, eqb, eq-eqb, leb}
use Rattle.std.specs.List.{list_any}
use Rattle.std.specs.Option.{option_map}
use Rattle.std.proofs.lemmas.Bool.{and_right, false≢true, ne_eqb, lt-leb, not-false}
use Rattle.std.proofs.lemmas.List.Elements.{All-weaker}
use Rattle.std.proofs.lemmas.List.Folds.{list_any_none}
use Rattle.dt_graph.specs.Refusal.{cause_if, first_cause}
use Rattle.dt_graph.specs.Graph.{has_number, is_live}
use Rattle.dt_graph.specs.GraphChange.{add_cause, drop_cause, link_cause, unlink_cause}
use Rattle.dt_graph.proofs.InOrder.{is_some-find, no_some, remove_inserted, put_back_replaced, put_back_removed}
use Rattle.dt_graph.proofs.LawfulChanges.{may_be_added}
use Rattle.dt_graph.proofs.Undone.{add_undone, drop_undone, link_undone, unlink_undone}
use Rattle.dt_selectors.specs.Selectors.{Selector, arity_in, has_selector, insert_selector, without_selector}
use Rattle.dt_selectors.proofs.Undoing.{adding_undone, dropping_undone}
use Rattle.dt_selectors.proofs.Arities.{adding, dropping}
use Rattle.dt_definitions.specs.Program.{Definition, Program, is_definition, insert_definition, key_of, is_key_before, is_same_key}
use Rattle.dt_definitions.specs.Lawful.{Lawful, LawfulDefinition, IsInRange}
use Rattle.dt_definitions.specs.Step.{refusal, effect, step_edit, why_of, is_named, is_defined, has_definition, place_causes, with_graph, with_selectors, with_definitions}
use Rattle.dt_definitions.specs.Undo.{inverse, arity_again, body_again}
use Rattle.dt_definitions.specs.declared.limits.TheConstants.{DEFINITIONS}
use Rattle.dt_definitions.specs.declared.definition_key.DefinitionKey.{DefinitionKey}
use Rattle.dt_definitions.specs.declared.edit.Edit.{Edit}
use Rattle.dt_definitions.specs.declared.edit.Edit.TheVariants.{AddClass, DropClass, Link, Unlink, AddSelector, DropSelector, Define, Undefine}
use Rattle.dt_definitions.specs.declared.why.Why.TheVariants as why
use Rattle.dt_definitions.proofs.AnswerLaws.{ok_has_no_cause}
use Rattle.dt_definitions.proofs.Steps.{not_caused, none_mapped}
use Rattle.dt_graph.proofs.Refusals.{no_test, no_found}
use Rattle.dt_definitions.proofs.DefinitionOrder.{key_order}
use Rattle.dt_definitions.proofs.DefinitionUndo.{placed_there, found_is}
use Rattle.dt_definitions.proofs.Keys.{length-without}

-- a test that fails for all elements with the property
none_passes : {X : Type 0} (P : X → Type 0) (test : X → Bool) → ((x : X) → P x → test x ≡ false) → (xs : List X) → All P xs → list_any test xs ≡ false
none_passes P test fails xs all = list_any_none test xs (All-weaker P (λ x. test x ≡ false) fails xs all)

-- no definition names a class that isn't live, or is of a selector that isn't
unnamed : (p : Program) (class : ℕ) → Lawful p → is_live p.graph class ≡ false → is_named p class ≡ false
unnamed p class lawful gone =
    none_passes (LawfulDefinition p) (λ d. has_number d.classes class)
    (λ d l. none_passes (λ n. IsTrue (is_live p.graph n)) (λ n. eqb n class)
    (λ n live. ne_eqb n class (λ same. false≢true (sym gone ∙ subst (λ k. is_live p.graph k ≡ true) same live))) d.classes l.classes_live)
    p.definitions lawful.definitions_lawful

undefined : (p : Program) (selector : ℕ) → Lawful p → has_selector p.selectors selector ≡ false → is_defined p selector ≡ false
undefined p selector lawful gone =
    none_passes (LawfulDefinition p) (λ d. eqb d.selector selector)
    (λ d l. ne_eqb d.selector selector (λ same. false≢true (sym gone ∙ subst (λ s. has_selector p.selectors s ≡ true) same (ap is_some l.arity_fits))))
    p.definitions lawful.definitions_lawful

-- where only the last of the causes is another, and none
other_last : {F : Type 0} (causes : List (Option F)) (last other : Option F) → None ≡ first_cause (causes ++ last ∷ [])
    → other ≡ None → first_cause (causes ++ other ∷ []) ≡ None
other_last [] last other h none = rw none refl
other_last (None ∷ causes) last other h none = other_last causes last other h none
other_last (Some cause ∷ causes) last other h none = absurd cc

the_last : {F : Type 0} (causes : List (Option F)) (last : Option F) → None ≡ first_cause (causes ++ last ∷ []) → last ≡ None
the_last [] None h = refl
the_last [] (Some cause) h = absurd cc
the_last (None ∷ causes) last h = the_last causes last h
the_last (Some cause ∷ causes) last h = absurd cc

abbrev pub IsUndone : Program → Edit → Program → Type 0
IsUndone q edit p = (refusal q edit ≡ None) × (effect q edit ≡ p)

define_undone : (p : Program) (s : ℕ) (cs : List ℕ) (body : ℕ) → Lawful p → None ≡ refusal p (Define s cs body)
    → IsUndone (effect p (Define s cs body)) (inverse p (Define s cs body)) p
define_undone p s cs body lawful h = go (find (is_definition s cs) p.definitions) refl
  where
    d : Definition
    d = record { selector = s; classes = cs; body = body }

    there : list_any (is_definition s cs) (insert_definition d p.definitions) ≡ true
    there = placed_there d p.definitions

    go : (found : Option Definition) → find (is_definition s cs) p.definitions ≡ found
        → IsUndone (effect p (Define s cs body)) (body_again s cs (option_map (λ d. d.body) found)) p
    go None is = (
      other_last (place_causes p s cs) _ _ h (rw there refl),
      ap (with_definitions p) (remove_inserted key_of is_key_before is_same_key key_order d p.definitions is),
    )
    go (Some old) is = (
      other_last (place_causes p s cs) _ _ h (rw (there, and_right (leb DEFINITIONS (length (insert_definition d p.definitions))) false refl) refl),
      ap (with_definitions p) (subst (λ o. insert_definition o (insert_definition d p.definitions) ≡ p.definitions) (found_is s cs p.definitions old is)
          (put_back_replaced key_of is_key_before is_same_key key_order d old p.definitions lawful.definitions_ascend is)),
    )

undefine_undone : (p : Program) (s : ℕ) (cs : List ℕ) → Lawful p → None ≡ refusal p (Undefine s cs)
    → IsUndone (effect p (Undefine s cs)) (inverse p (Undefine s cs)) p
undefine_undone p s cs lawful h = go (find (is_definition s cs) p.definitions) refl
  where
    key : DefinitionKey
    key = record { selector = s; classes = cs }

    rest : List Definition
    rest = filter (λ d. not (is_definition s cs d)) p.definitions

    there : list_any (is_definition s cs) p.definitions ≡ true
    there = not-false _ (not_caused (not (has_definition p s cs)) why.NoDefinition (the_last (place_causes p s cs) _ h))

    few : leb DEFINITIONS (length rest) ≡ false
    few = lt-leb DEFINITIONS (length rest)
        (omega (arith, length-without key_of is_key_before is_same_key key_order key p.definitions lawful.definitions_ascend there, lawful.few_definitions))

    go : (found : Option Definition) → find (is_definition s cs) p.definitions ≡ found
        → IsUndone (effect p (Undefine s cs)) (body_again s cs (option_map (λ d. d.body) found)) p
    go None is = absurd (false≢true (ap is_some (sym is) ∙ is_some-find (is_definition s cs) p.definitions ∙ there))
    go (Some old) is = (
      other_last (place_causes p s cs) _ _ h (rw few refl),
      ap (with_definitions p) (subst (λ o. insert_definition o rest ≡ p.definitions) (found_is s cs p.definitions old is)
          (put_back_removed key_of is_key_before is_same_key key_order key old p.definitions lawful.definitions_ascend is)),
    )

add_selector_undone : (p : Program) (s a : ℕ) → Lawful p → has_selector p.selectors s ≡ false
    → IsUndone (effect p (AddSelector s a)) (DropSelector s) p
add_selector_undone p s a lawful absent =
    let new : Selector = record { number = s; arity = a } in
    let own : arity_in (insert_selector new p.selectors) s ≡ Some a = adding p.selectors new s ∙ rw (eq-eqb s s refl) refl in
    let known : has_selector (insert_selector new p.selectors) s ≡ true = ap is_some own in
    (rw (known, undefined p s lawful absent) refl, ap (with_selectors p) (adding_undone p.selectors new (no_some (arity_in p.selectors s) absent)))

drop_selector_undone : (p : Program) (s : ℕ) → Lawful p → None ≡ refusal p (DropSelector s)
    → IsUndone (effect p (DropSelector s)) (inverse p (DropSelector s)) p
drop_selector_undone p s lawful h = go (arity_in p.selectors s) refl
  where
    there : has_selector p.selectors s ≡ true
    there = not-false _ (no_test (not (has_selector p.selectors s)) why.SelectorUnknown (cause_if (is_defined p s) why.HasDefinitions ∷ []) (sym h)).0

    gone : has_selector (without_selector p.selectors s) s ≡ false
    gone =
        let none : arity_in (without_selector p.selectors s) s ≡ None = dropping p.selectors s s ∙ rw (eq-eqb s s refl) refl in
        ap is_some none

    go : (arity : Option ℕ) → arity_in p.selectors s ≡ arity → IsUndone (effect p (DropSelector s)) (arity_again s arity) p
    go None is = absurd (false≢true (ap is_some (sym is) ∙ there))
    go (Some a) is = (rw gone refl, ap (with_selectors p) (dropping_undone p.selectors (record { number = s; arity = a }) lawful.selectors.ascend is))

pub effect-undone : (p : Program) (edit : Edit) → Lawful p → IsInRange edit → None ≡ refusal p edit → IsUndone (effect p edit) (inverse p edit) p
effect-undone p (AddClass class parents) l r h =
    let none = none_mapped (add_cause p.graph class parents) (sym h) in
    let u = add_undone p.graph class parents l.graph r none in
    let nameless = unnamed p class l (may_be_added p.graph class parents none).new in
    (rw (u.0, nameless) refl, ap (with_graph p) u.1)
effect-undone p (DropClass class) l r h =
    let u = drop_undone p.graph class l.graph (no_found why_of (drop_cause p.graph class) (cause_if (is_named p class) why.HasDefinitions ∷ []) (sym h)).0 in
    (ap (option_map why_of) u.0, ap (with_graph p) u.1)
effect-undone p (Link class parent) l r h =
    let u = link_undone p.graph class parent l.graph (none_mapped (link_cause p.graph class parent) (sym h)) in
    (ap (option_map why_of) u.0, ap (with_graph p) u.1)
effect-undone p (Unlink class parent) l r h =
    let u = unlink_undone p.graph class parent l.graph (none_mapped (unlink_cause p.graph class parent) (sym h)) in
    (ap (option_map why_of) u.0, ap (with_graph p) u.1)
effect-undone p (AddSelector selector arity) l r h =
    add_selector_undone p selector arity l (not_caused (has_selector p.selectors selector) why.SelectorExists (sym h))
effect-undone p (DropSelector selector) l r h = drop_selector_undone p selector l h
effect-undone p (Define selector classes body) l r h = define_undone p selector classes body l h
effect-undone p (Undefine selector classes) l r h = undefine_undone p selector classes l h

pub step-undone : (old new : Program) (edit : Edit) → Lawful old → IsInRange edit → step_edit old edit ≡ Ok new → IsUndone new (inverse old edit) old
step-undone old new edit l r h =
    let made = ok_has_no_cause old new edit h in
    subst (λ q. IsUndone q (inverse old edit) old) (sym made.1) (effect-undone old edit l r (sym made.0))
