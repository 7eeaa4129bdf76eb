-- Steps of edits: what a cause, or none, says of a step; how many definitions a step leaves.
use Rattle.std.proofs.Common.{◌≡◌, ℕ, ◌≤◌, Bool, true, false, not, List, [], ◌∷◌, length, filter, option_map, Option, Some, None, is_none, Ok, Err, IsTrue, refl, sym, ap, ◌∙◌, arith, leb, ◌&&◌}
use Rattle.std.specs.List.{list_any}
use Rattle.std.proofs.lemmas.Bool.Decides.{nat_tests}
use Rattle.dt_graph.specs.Refusal.{cause_if, first_cause, ok_unless}
use Rattle.dt_graph.specs.GraphChange.{first_unknown}
use Rattle.dt_selectors.specs.Selectors.{has_selector}
use Rattle.dt_definitions.specs.Program.{Definition, Program, is_definition, insert_definition, key_of, is_key_before, is_same_key}
use Rattle.dt_definitions.specs.Lawful.{AscendingDefinitions}
use Rattle.dt_definitions.specs.Step.{why_of, has_definition, arity_differs, refusal, effect, step_edit, with_definitions}
use Rattle.dt_definitions.specs.Memory.{may_want_memory}
use Rattle.dt_definitions.specs.declared.limits.TheConstants.{DEFINITIONS}
use Rattle.dt_definitions.specs.declared.edit.Edit.{Edit}
use Rattle.dt_definitions.specs.declared.edit.Edit.TheVariants.{Define}
use Rattle.dt_graph.specs.declared.graph_fault.GraphFault.{GraphFault}
use Rattle.dt_definitions.specs.declared.why.Why.{Why}
use Rattle.dt_definitions.specs.declared.why.Why.TheVariants as why
use Rattle.dt_definitions.proofs.DefinitionOrder.{key_order}
use Rattle.dt_definitions.proofs.Keys.{length-insert_new, length-insert_again}

pub refused : (p : Program) (edit : Edit) (cause : Why) → Some cause ≡ refusal p edit → step_edit p edit ≡ Err cause
refused p edit cause h = ap (λ r. ok_unless r (effect p edit)) (sym h)

pub accepted : (p : Program) (edit : Edit) → None ≡ refusal p edit → step_edit p edit ≡ Ok (effect p edit)
accepted p edit h = ap (λ r. ok_unless r (effect p edit)) (sym h)

-- no cause of a list holds
abbrev pub NoCause : {F : Type 0} → List (Option F) → Type 0
NoCause [] = Unit {0}
NoCause (cause ∷ causes) = (cause ≡ None) × NoCause causes

pub no_cause : {F : Type 0} (causes : List (Option F)) → None ≡ first_cause causes → NoCause causes
no_cause [] h = tt
no_cause (None ∷ causes) h = (refl, no_cause causes h)
no_cause (Some cause ∷ causes) h = absurd cc

pub not_caused : {F : Type 0} (test : Bool) (cause : F) → cause_if test cause ≡ None → test ≡ false
not_caused true cause h = cc
not_caused false cause h = refl

-- a definition that may be made leaves no more definitions than there may be
pub few-insert : (d : Definition) (ds : List Definition)
    → AscendingDefinitions ds → length ds ≤ DEFINITIONS
    → (leb DEFINITIONS (length ds) && not (list_any (is_definition d.selector d.classes) ds)) ≡ false
    → length (insert_definition d ds) ≤ DEFINITIONS
few-insert d ds u l h =
    let n = length-insert_new key_of is_key_before is_same_key key_order d ds in
    let a = length-insert_again key_of is_key_before is_same_key key_order d ds u in
    grind (arith, nat_tests)

pub few-filter : (p : Definition → Bool) (ds : List Definition) → length (filter p ds) ≤ length ds
few-filter p [] = omega arith
few-filter p (d ∷ ds) = let r = few-filter p ds in grind arith

-- what holds where a definition may be made
pub record MayDefine (p : Program) (selector : ℕ) (classes : List ℕ) : Type 0 where
  pub known : has_selector p.selectors selector ≡ true
  pub arity : arity_differs p selector classes ≡ false
  pub live : first_unknown p.graph classes ≡ None
  pub few : (leb DEFINITIONS (length p.definitions) && not (has_definition p selector classes)) ≡ false

pub none_mapped : (o : Option GraphFault) → option_map why_of o ≡ None → o ≡ None
none_mapped None h = refl
none_mapped (Some x) h = absurd cc

pub may_define : (p : Program) (selector : ℕ) (classes : List ℕ) (body : ℕ)
    → None ≡ refusal p (Define selector classes body) → MayDefine p selector classes
may_define p selector classes body h =
    let causes : List (Option Why) =
    cause_if (not (has_selector p.selectors selector)) why.SelectorUnknown
    ∷ cause_if (arity_differs p selector classes) why.ArityDiffers
    ∷ option_map why_of (first_unknown p.graph classes)
    ∷ cause_if (leb DEFINITIONS (length p.definitions) && not (has_definition p selector classes)) why.DefinitionsFull
    ∷ [] in
    let n : NoCause causes = no_cause causes h in
    record {
      known = let k = not_caused (not (has_selector p.selectors selector)) why.SelectorUnknown n.0 in grind arith;
      arity = not_caused (arity_differs p selector classes) why.ArityDiffers n.1.0;
      live = none_mapped (first_unknown p.graph classes) n.1.1.0;
      few = not_caused (leb DEFINITIONS (length p.definitions) && not (has_definition p selector classes)) why.DefinitionsFull n.1.1.1.0;
    }

-- the step of a definition that may be made
pub defined_step : (p : Program) (s : ℕ) (cs : List ℕ) (body : ℕ) (new : List Definition)
    → None ≡ refusal p (Define s cs body)
    → new ≡ insert_definition (record { selector = s; classes = cs; body = body }) p.definitions
    → step_edit p (Define s cs body) ≡ Ok (with_definitions p new)
defined_step p s cs body new h e = accepted p (Define s cs body) h ∙ rw e refl

-- a definition that may be made, and isn't there yet, may want memory
pub memory_due : (p : Program) (s : ℕ) (cs : List ℕ) (body : ℕ)
    → None ≡ refusal p (Define s cs body) → (has_definition p s cs ≡ true → ⊥) → IsTrue (may_want_memory p (Define s cs body))
memory_due p s cs body h absent =
    elim (has_definition p s cs) as (λ t. has_definition p s cs ≡ t → IsTrue (is_none (refusal p (Define s cs body)) && not t)) [
      | true ↦ λ there. absurd (absent there)
      | false ↦ λ _. ap (λ o. is_none o && true) (sym h)
    ] refl
