-- The step of an edit keeps a program lawful.
use Rattle.std.proofs.Common.{◌≡◌, ℕ, ◌<◌, true, false, not, List, [], ◌∷◌, length, filter, get_or, option_map, Option, Some, None, Ok, Err, Result, is_some, IsTrue, All, refl, sym, ap, subst, ◌∙◌, arith, eqb}
use Rattle.std.specs.Option.{option_map_or}
use Rattle.std.proofs.lemmas.Bool.{eq-eqb, eqb-true, ne_eqb, or_right, false≢true}
use Rattle.std.proofs.lemmas.List.Folds.{list_any_at}
use Rattle.std.proofs.lemmas.List.Elements.{All-nil, All-cons, All-filter, All-weaker, filter_passes}
use Rattle.dt_graph.specs.Refusal.{cause_if}
use Rattle.dt_graph.specs.Graph.{Graph, has_number, is_live}
use Rattle.dt_graph.specs.GraphChange.{add_cause, add_effect, drop_cause, drop_effect, link_cause, link_effect, unlink_effect, first_unknown}
use Rattle.dt_graph.specs.Lawful.{LawfulGraph}
use Rattle.dt_selectors.specs.Selectors.{Selector, arity_in, has_selector, insert_selector, without_selector}
use Rattle.dt_selectors.specs.Lawful.{LawfulSelectors}
use Rattle.dt_definitions.specs.Program.{Definition, Program, empty_program, arity_of, definitions_of, is_definition, insert_definition, key_of, is_key_before, is_same_key}
use Rattle.dt_definitions.specs.Lawful.{LawfulDefinition, Lawful, IsInRange}
use Rattle.dt_definitions.specs.Step.{why_of, is_named, is_defined, arity_differs, refusal, effect, step_edit, with_graph, with_selectors, with_definitions, Applies}
use Rattle.dt_definitions.specs.declared.edit.Edit.{Edit}
use Rattle.dt_definitions.specs.declared.edit.Edit.TheVariants.{AddClass, DropClass, Link, Unlink, AddSelector, DropSelector, Define, Undefine}
use Rattle.dt_definitions.specs.declared.why.Why.{Why}
use Rattle.dt_definitions.specs.declared.why.Why.TheVariants as why
use Rattle.dt_definitions.specs.declared.why.ApplyFault.{ApplyFault}
use Rattle.dt_definitions.proofs.AnswerLaws.{ok_has_no_cause, ok_alone_changes}
use Rattle.dt_definitions.proofs.DefinitionOrder.{key_order, insert-ascends, filter-ascends}
use Rattle.dt_graph.proofs.InOrder.{All-insert}
use Rattle.dt_graph.proofs.LinkLists.{has_number-placed, has_number-kept}
use Rattle.dt_graph.proofs.LawfulChanges as graph
use Rattle.dt_selectors.proofs.LawfulChanges as selectors
use Rattle.dt_selectors.proofs.Arities.{adding, dropping}
use Rattle.dt_definitions.proofs.Steps.{NoCause, no_cause, not_caused, none_mapped, few-insert, few-filter, may_define}

-- a class of a definition is named, and a definition's selector is defined
named_at : (p : Program) (i k : ℕ) (d : Definition) (e : ℕ)
    → i < length p.definitions → k < length (get_or p.definitions i d).classes
    → IsTrue (is_named p (get_or (get_or p.definitions i d).classes k e))
named_at p i k d e l m =
    let classes = (get_or p.definitions i d).classes in
    let class = get_or classes k e in
    list_any_at (λ d. has_number d.classes class) p.definitions i d l
    (list_any_at (λ n. eqb n class) classes k e m (eq-eqb class class refl))

defined_at : (p : Program) (i : ℕ) (d : Definition)
    → i < length p.definitions → IsTrue (is_defined p (get_or p.definitions i d).selector)
defined_at p i d l =
    let s = (get_or p.definitions i d).selector in
    list_any_at (λ d. eqb d.selector s) p.definitions i d l (eq-eqb s s refl)

-- another lawful graph, in which the classes that definitions name stay live
graph_changed : (p : Program) (g : Graph) → Lawful p → LawfulGraph g
    → ((class : ℕ) → IsTrue (is_named p class) → IsTrue (is_live p.graph class) → IsTrue (is_live g class))
    → Lawful (with_graph p g)
graph_changed p g l h stays = record {
  graph = h;
  selectors = l.selectors;
  definitions_ascend = l.definitions_ascend;
  definitions_lawful = λ i d m.
      let old = l.definitions_lawful i d m in record {
        arity_fits = old.arity_fits;
        classes_live = λ k e n. stays _ (named_at p i k d e m n) (old.classes_live k e n);
        body_in_range = old.body_in_range;
      };
  few_definitions = l.few_definitions;
}

-- other lawful selectors, among which those that are defined keep their arity
selectors_changed : (p : Program) (ss : List Selector) → Lawful p → LawfulSelectors ss
    → ((s : ℕ) → IsTrue (is_defined p s) → IsTrue (has_selector p.selectors s) → arity_in ss s ≡ arity_in p.selectors s)
    → Lawful (with_selectors p ss)
selectors_changed p ss l h stays = record {
  graph = l.graph;
  selectors = h;
  definitions_ascend = l.definitions_ascend;
  definitions_lawful = λ i d m.
      let old = l.definitions_lawful i d m in record {
        arity_fits = stays _ (defined_at p i d m) (ap is_some old.arity_fits) ∙ old.arity_fits;
        classes_live = old.classes_live;
        body_in_range = old.body_in_range;
      };
  few_definitions = l.few_definitions;
}

-- a lawful definition is one whatever the definitions beside it
beside : (p : Program) (ds : List Definition) (d : Definition) → LawfulDefinition p d → LawfulDefinition (with_definitions p ds) d
beside p ds d h = record { arity_fits = h.arity_fits; classes_live = h.classes_live; body_in_range = h.body_in_range }

insert-all : (P : Definition → Type 0) (d : Definition) (ds : List Definition) → P d → All P ds → All P (insert_definition d ds)
insert-all = All-insert key_of is_key_before is_same_key key_order

-- classes of which none is unknown are live
all_live : (g : Graph) (classes : List ℕ) → first_unknown g classes ≡ None → All (λ class. IsTrue (is_live g class)) classes
all_live g [] h = All-nil (λ class. IsTrue (is_live g class))
all_live g (c ∷ cs) h =
    All-cons (λ class. IsTrue (is_live g class)) c cs (grind arith) (all_live g cs (grind arith))

arity_known : (p : Program) (s : ℕ) (cs : List ℕ)
    → has_selector p.selectors s ≡ true → arity_differs p s cs ≡ false → arity_of p s ≡ Some (length cs)
arity_known p s cs h d =
    elim (arity_of p s) as (λ o. is_some o ≡ true
    → option_map_or (λ arity. not (eqb arity (length cs))) o false ≡ false → o ≡ Some (length cs)) [
      | None ↦ λ h d. absurd (false≢true h)
      | (Some a) ↦ λ h d. let e : eqb a (length cs) ≡ true = grind arith in ap Some (eqb-true a (length cs) e)
    ] h d

effect-lawful : (p : Program) (edit : Edit) → Lawful p → IsInRange edit → None ≡ refusal p edit → Lawful (effect p edit)
effect-lawful p (AddClass class parents) l r h =
    graph_changed p (add_effect p.graph class parents) l
    (graph.add_keeps p.graph class parents l.graph r (none_mapped (add_cause p.graph class parents) (sym h)))
    (λ c _ live. has_number-placed class p.graph.classes c ∙ or_right (eqb class c) (is_live p.graph c) live)
effect-lawful p (DropClass class) l r h =
    let causes : List (Option Why) = option_map why_of (drop_cause p.graph class) ∷ cause_if (is_named p class) why.HasDefinitions ∷ [] in
    let n : NoCause causes = no_cause causes h in
    let unnamed = not_caused (is_named p class) why.HasDefinitions n.1.0 in
    graph_changed p (drop_effect p.graph class) l
    (graph.drop_keeps p.graph class l.graph (none_mapped (drop_cause p.graph class) n.0))
    (λ c named live. has_number-kept (λ k. not (eqb k class)) p.graph.classes c live
    (ap not (ne_eqb c class (λ e. false≢true (sym unnamed ∙ subst (λ k. is_named p k ≡ true) e named)))))
effect-lawful p (Link class parent) l r h =
    graph_changed p (link_effect p.graph class parent) l
    (graph.link_keeps p.graph class parent l.graph (none_mapped (link_cause p.graph class parent) (sym h)))
    (λ c _ live. live)
effect-lawful p (Unlink class parent) l r h =
    graph_changed p (unlink_effect p.graph class parent) l
    (graph.unlink_keeps p.graph class parent l.graph)
    (λ c _ live. live)
effect-lawful p (AddSelector selector arity) l r h =
    let new : Selector = record { number = selector; arity = arity } in
    let absent = not_caused (has_selector p.selectors selector) why.SelectorExists (sym h) in
    selectors_changed p (insert_selector new p.selectors) l (selectors.add_keeps p.selectors new l.selectors r)
    (λ s _ known.
    let other = ne_eqb selector s (λ e. false≢true (sym absent ∙ subst (λ k. has_selector p.selectors k ≡ true) (sym e) known)) in
    adding p.selectors new s ∙ rw other refl)
effect-lawful p (DropSelector selector) l r h =
    let causes : List (Option Why) = cause_if (not (has_selector p.selectors selector)) why.SelectorUnknown ∷ cause_if (is_defined p selector) why.HasDefinitions ∷ [] in
    let n : NoCause causes = no_cause causes h in
    let undefined = not_caused (is_defined p selector) why.HasDefinitions n.1.0 in
    selectors_changed p (without_selector p.selectors selector) l (selectors.drop_keeps p.selectors selector l.selectors)
    (λ s defined _.
    let other = ne_eqb selector s (λ e. false≢true (sym undefined ∙ subst (λ k. is_defined p k ≡ true) (sym e) defined)) in
    dropping p.selectors selector s ∙ rw other refl)
effect-lawful p (Define selector classes body) l r h =
    let d : Definition = record { selector = selector; classes = classes; body = body } in
    let ds = insert_definition d p.definitions in
    let may = may_define p selector classes body h in
    record {
      graph = l.graph;
      selectors = l.selectors;
      definitions_ascend = insert-ascends d p.definitions l.definitions_ascend;
      definitions_lawful = insert-all (LawfulDefinition (with_definitions p ds)) d p.definitions
          (record { arity_fits = arity_known p selector classes may.known may.arity; classes_live = all_live p.graph classes may.live; body_in_range = r })
          (λ i e m. beside p ds (get_or p.definitions i e) (l.definitions_lawful i e m));
      few_definitions = few-insert d p.definitions l.definitions_ascend l.few_definitions may.few;
    }
effect-lawful p (Undefine selector classes) l r h =
    let others = λ (d : Definition). not (is_definition selector classes d) in
    let ds = filter others p.definitions in
    record {
      graph = l.graph;
      selectors = l.selectors;
      definitions_ascend = filter-ascends others p.definitions l.definitions_ascend;
      definitions_lawful = All-filter others (LawfulDefinition (with_definitions p ds)) p.definitions
          (λ i e m. beside p ds (get_or p.definitions i e) (l.definitions_lawful i e m));
      few_definitions = omega (arith, few-filter others p.definitions, l.few_definitions);
    }

pub step-lawful : (old : Program) (edit : Edit) (new : Program) → Lawful old → IsInRange edit → step_edit old edit ≡ Ok new → Lawful new
step-lawful old edit new l r h =
    let made = ok_has_no_cause old new edit h in
    subst Lawful (sym made.1) (effect-lawful old edit l r (sym made.0))

pub empty-lawful : Lawful empty_program
empty-lawful = record {
  graph = graph.empty_lawful;
  selectors = selectors.empty_lawful;
  definitions_ascend = tt;
  definitions_lawful = All-nil (LawfulDefinition empty_program);
  few_definitions = omega arith;
}

-- whatever the answer of an edit, the program after it is lawful
pub answer-lawful : (old new : Program) (edit : Edit) (answer : Result (Unit {0}) ApplyFault)
    → Lawful old → IsInRange edit → Applies old edit new answer → Lawful new
answer-lawful old new edit (Ok _) l r h = step-lawful old edit new l r h
answer-lawful old new edit (Err fault) l r h = subst Lawful (sym (ok_alone_changes old new edit fault h)) l

-- the definitions of one selector fit it
pub definitions-fit : (p : Program) → Lawful p → (s : ℕ)
    → All (λ d. (arity_of p s ≡ Some (length d.classes)) × All (λ class. IsTrue (is_live p.graph class)) d.classes) (definitions_of p s)
definitions-fit p l s =
    All-weaker (λ d. LawfulDefinition p d × IsTrue (eqb d.selector s))
    (λ d. (arity_of p s ≡ Some (length d.classes)) × All (λ class. IsTrue (is_live p.graph class)) d.classes)
    (λ d h. (subst (λ n. arity_of p n ≡ Some (length d.classes)) (eqb-true d.selector s h.1) h.0.arity_fits, h.0.classes_live))
    (definitions_of p s)
    (λ i d m. (
      All-filter (λ d. eqb d.selector s) (LawfulDefinition p) p.definitions l.definitions_lawful i d m,
      filter_passes (λ d. eqb d.selector s) p.definitions i d m,
    ))
