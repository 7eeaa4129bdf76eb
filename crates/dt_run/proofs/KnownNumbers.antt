-- The numbers that a program's refusals and replies tell are numbers that its edits named.
use Rattle.std.proofs.Common.{◌==◌, ℕ, ◌+◌, nat_lt, nat_le, length, Bool, true, false, cond, not, List, [], ◌∷◌, ◌++◌, find, Option, Some, None, Ok, Err, Result, option_map, All}
use Rattle.std.specs.Prelude.{IfSome}
use Rattle.std.specs.List.{AllByRecursion}
use Rattle.std.specs.Result.{result_unwrap_or}
use Rattle.std.proofs.lemmas.List.Elements.{All-nil, All-head, All-tail, All-filter}
use Rattle.dt_graph.specs.Refusal.{cause_if, first_cause, ok_unless}
use Rattle.dt_graph.specs.Graph.{Link, Graph, has_number, is_live, is_link, has_link, parent_count, insert_links, is_link_before}
use Rattle.dt_graph.specs.Below.{is_below}
use Rattle.dt_graph.specs.GraphChange.{unknown, first_unknown, first_repeated, lowest_subclass, add_cause, drop_cause, link_cause, unlink_cause}
use Rattle.dt_graph.specs.declared.limits.TheConstants.{PARENTS}
use Rattle.dt_graph.specs.declared.graph_fault.GraphFault.{GraphFault}
use Rattle.dt_graph.specs.declared.graph_fault.GraphFault.TheVariants as fault
use Rattle.dt_graph.proofs.Ascending.{order_of_links}
use Rattle.dt_graph.proofs.InOrder.{All-insert}
use Rattle.dt_definitions.specs.Program.{Definition, Program, empty_program, key_of, is_key_before, is_same_key}
use Rattle.dt_definitions.specs.Step.{why_of, is_named, is_defined, arity_differs, place_causes, refusal, effect, Refused, and_then, step_from, step_batch, stepped, after_from, after}
use Rattle.dt_selectors.specs.Selectors.{has_selector}
use Rattle.dt_definitions.specs.RefusalWords.{class_of}
use Rattle.dt_definitions.specs.declared.edit.Edit.{Edit}
use Rattle.dt_definitions.specs.declared.edit.Edit.TheVariants.{AddClass, DropClass, Unlink, AddSelector, DropSelector, Define, Undefine}
use Rattle.dt_definitions.specs.declared.edit.Edit.TheVariants as edit
use Rattle.dt_definitions.specs.declared.why.Why.{Why}
use Rattle.dt_definitions.specs.declared.why.Why.TheVariants as why
use Rattle.dt_definitions.proofs.DefinitionOrder.{key_order}

-- what is found is one of the list
All-find : {X : Type 0} (P : X → Type 0) (test : X → Bool) (xs : List X) → All P xs → IfSome (find test xs) P
All-find P test [] all = tt
All-find P test (x ∷ xs) all =
    elim (test x) as (λ b. IfSome (cond b (Some x) (find test xs)) P) [
      | true ↦ All-head P x xs all
      | false ↦ All-find P test xs (All-tail P x xs all)
    ]

-- what holds of each cause holds of the first
first_of : {F : Type 0} (P : Option F → Type 0) → P None → (causes : List (Option F)) → AllByRecursion P causes → P (first_cause causes)
first_of P none [] all = none
first_of P none (None ∷ causes) all = first_of P none causes all.1
first_of P none (Some cause ∷ causes) all = all.0

if_cause : {F : Type 0} (P : Option F → Type 0) → P None → (test : Bool) (cause : F) → P (Some cause) → P (cause_if test cause)
if_cause P none true cause holds = holds
if_cause P none false cause holds = none

module _ (C B : ℕ → Type 0) where
  -- the classes and the body that an edit names are known
  abbrev pub KnownEdit : Edit → Type 0
  KnownEdit (AddClass class parents) = C class × All C parents
  KnownEdit (DropClass class) = C class
  KnownEdit (edit.Link class parent) = C class × C parent
  KnownEdit (Unlink class parent) = C class × C parent
  KnownEdit (AddSelector selector arity) = Unit {0}
  KnownEdit (DropSelector selector) = Unit {0}
  KnownEdit (Define selector classes body) = All C classes × B body
  KnownEdit (Undefine selector classes) = All C classes

  -- so are those of a program that a refusal or a reply may tell
  pub record KnownProgram (p : Program) : Type 0 where
    pub links : All (λ (link : Link). C link.class) p.graph.links
    pub bodies : All (λ (d : Definition). B d.body) p.definitions

  -- the class that a cause is about
  abbrev pub KnownWhy : Option Why → Type 0
  KnownWhy cause = IfSome cause (λ why. IfSome (class_of why) C)

  abbrev KnownFault : Option GraphFault → Type 0
  KnownFault cause = KnownWhy (option_map why_of cause)

  if_fault : (test : Bool) (cause : GraphFault) → KnownFault (Some cause) → KnownFault (cause_if test cause)
  if_fault = if_cause KnownFault tt

  if_why : (test : Bool) (cause : Why) → KnownWhy (Some cause) → KnownWhy (cause_if test cause)
  if_why = if_cause KnownWhy tt

  -- ---- refusals

  unknown_known : (graph : Graph) (class : ℕ) → C class → KnownFault (unknown graph class)
  unknown_known graph class known = if_fault (not (is_live graph class)) (fault.ClassUnknown class) known

  found_known : (found : Option ℕ) (cause : ℕ → GraphFault) → ((class : ℕ) → C class → KnownFault (Some (cause class))) → IfSome found C
      → KnownFault (option_map cause found)
  found_known None cause holds known = tt
  found_known (Some class) cause holds known = holds class known

  repeated_known : (earlier numbers : List ℕ) → All C numbers → IfSome (first_repeated earlier numbers) C
  repeated_known earlier [] all = tt
  repeated_known earlier (number ∷ numbers) all =
      elim (has_number earlier number) as (λ b. IfSome (cond b (Some number) (first_repeated (number ∷ earlier) numbers)) C) [
        | true ↦ All-head C number numbers all
        | false ↦ repeated_known (number ∷ earlier) numbers (All-tail C number numbers all)
      ]

  first_unknown_known : (graph : Graph) (classes : List ℕ) → All C classes → KnownFault (first_unknown graph classes)
  first_unknown_known graph classes all =
      found_known (find (λ class. not (is_live graph class)) classes) fault.ClassUnknown (λ class known. known)
      (All-find C (λ class. not (is_live graph class)) classes all)

  subclass_known : (links : List Link) (class : ℕ) → All (λ (link : Link). C link.class) links → KnownFault (option_map fault.HasSubclasses (lowest_subclass links class))
  subclass_known links class all =
      elim (find (λ link. link.parent == class) links) as (λ (f : Option Link). IfSome f (λ link. C link.class) → KnownFault (option_map fault.HasSubclasses (option_map (λ link. link.class) f))) [
        | None ↦ λ _. tt
        | (Some link) ↦ λ known. known
      ] (All-find (λ (link : Link). C link.class) (λ link. link.parent == class) links all)

  add_known : (graph : Graph) (class : ℕ) (parents : List ℕ) → All C parents → KnownFault (add_cause graph class parents)
  add_known graph class parents all =
      let full = nat_lt PARENTS (length parents) in
      let twice = first_repeated [] parents in
      first_of KnownFault tt
      (cause_if (is_live graph class) fault.ClassExists ∷ cause_if full fault.TooManyParents ∷ first_unknown graph parents ∷ option_map fault.ParentTwice twice ∷ []) (
        if_fault (is_live graph class) fault.ClassExists tt,
        (
          if_fault full fault.TooManyParents tt,
          (
            first_unknown_known graph parents all,
            (found_known twice fault.ParentTwice (λ class known. known) (repeated_known [] parents all), tt),
          ),
        ),
      )

  drop_known : (graph : Graph) (class : ℕ) → C class → All (λ (link : Link). C link.class) graph.links → KnownFault (drop_cause graph class)
  drop_known graph class known links =
      first_of KnownFault tt (unknown graph class ∷ option_map fault.HasSubclasses (lowest_subclass graph.links class) ∷ [])
      (unknown_known graph class known, (subclass_known graph.links class links, tt))

  -- a link is refused for one of its ends, or for a cause that is about no class
  ends_known : (graph : Graph) (class parent : ℕ) (causes : List (Option GraphFault)) → C class → C parent → AllByRecursion KnownFault causes
      → KnownFault (first_cause (unknown graph class ∷ unknown graph parent ∷ causes))
  ends_known graph class parent causes known above rest =
      first_of KnownFault tt (unknown graph class ∷ unknown graph parent ∷ causes)
      (unknown_known graph class known, (unknown_known graph parent above, rest))

  link_known : (graph : Graph) (class parent : ℕ) → C class → C parent → KnownFault (link_cause graph class parent)
  link_known graph class parent known above =
      let there = has_link graph.links class parent in
      let full = nat_le PARENTS (parent_count graph.links class) in
      let round = is_below graph.links parent class in
      ends_known graph class parent (cause_if there fault.LinkExists ∷ cause_if full fault.TooManyParents ∷ cause_if round fault.Cycle ∷ []) known above
      (if_fault there fault.LinkExists tt, (if_fault full fault.TooManyParents tt, (if_fault round fault.Cycle tt, tt)))

  unlink_known : (graph : Graph) (class parent : ℕ) → C class → C parent → KnownFault (unlink_cause graph class parent)
  unlink_known graph class parent known above =
      let absent = not (has_link graph.links class parent) in
      ends_known graph class parent (cause_if absent fault.LinkUnknown ∷ []) known above (if_fault absent fault.LinkUnknown tt, tt)

  -- a definition is refused for one of its classes, or for a cause that is about no class
  place_known : (p : Program) (selector : ℕ) (classes : List ℕ) (test : Bool) (cause : Why) → All C classes → KnownWhy (Some cause)
      → KnownWhy (first_cause (place_causes p selector classes ++ cause_if test cause ∷ []))
  place_known p selector classes test cause all last =
      let absent = not (has_selector p.selectors selector) in
      let differs = arity_differs p selector classes in
      first_of KnownWhy tt (place_causes p selector classes ++ cause_if test cause ∷ [])
      (if_why absent why.SelectorUnknown tt, (if_why differs why.ArityDiffers tt, (first_unknown_known p.graph classes all, (if_why test cause last, tt))))

  pub refusal_known : (p : Program) (edit : Edit) → KnownProgram p → KnownEdit edit → KnownWhy (refusal p edit)
  refusal_known p (AddClass class parents) k e = add_known p.graph class parents e.1
  refusal_known p (DropClass class) k e =
      first_of KnownWhy tt (option_map why_of (drop_cause p.graph class) ∷ cause_if (is_named p class) why.HasDefinitions ∷ [])
      (drop_known p.graph class e k.links, (if_why (is_named p class) why.HasDefinitions tt, tt))
  refusal_known p (edit.Link class parent) k e = link_known p.graph class parent e.0 e.1
  refusal_known p (Unlink class parent) k e = unlink_known p.graph class parent e.0 e.1
  refusal_known p (AddSelector selector arity) k e = if_why (has_selector p.selectors selector) why.SelectorExists tt
  refusal_known p (DropSelector selector) k e =
      let absent = not (has_selector p.selectors selector) in
      first_of KnownWhy tt (cause_if absent why.SelectorUnknown ∷ cause_if (is_defined p selector) why.HasDefinitions ∷ [])
      (if_why absent why.SelectorUnknown tt, (if_why (is_defined p selector) why.HasDefinitions tt, tt))
  refusal_known p (Define selector classes body) k e = place_known p selector classes _ why.DefinitionsFull e.0 tt
  refusal_known p (Undefine selector classes) k e = place_known p selector classes _ why.NoDefinition e tt

  -- ---- effects

  linked : (class : ℕ) (parents : List ℕ) (links : List Link) → C class → All (λ (link : Link). C link.class) links
      → All (λ (link : Link). C link.class) (insert_links class parents links)
  linked class [] links known all = all
  linked class (parent ∷ parents) links known all =
      linked class parents _ known
      (All-insert (λ l. l) is_link_before (λ a b. is_link a.class a.parent b) order_of_links (λ (link : Link). C link.class)
      (record { class = class; parent = parent }) links known all)

  pub effect_known : (p : Program) (edit : Edit) → KnownProgram p → KnownEdit edit → KnownProgram (effect p edit)
  effect_known p (AddClass class parents) k e = record { links = linked class parents p.graph.links e.0 k.links; bodies = k.bodies }
  effect_known p (DropClass class) k e = record { links = All-filter _ (λ (link : Link). C link.class) p.graph.links k.links; bodies = k.bodies }
  effect_known p (edit.Link class parent) k e = record { links = linked class (parent ∷ []) p.graph.links e.0 k.links; bodies = k.bodies }
  effect_known p (Unlink class parent) k e = record { links = All-filter _ (λ (link : Link). C link.class) p.graph.links k.links; bodies = k.bodies }
  effect_known p (AddSelector selector arity) k e = record { links = k.links; bodies = k.bodies }
  effect_known p (DropSelector selector) k e = record { links = k.links; bodies = k.bodies }
  effect_known p (Define selector classes body) k e = record {
    links = k.links;
    bodies = All-insert key_of is_key_before is_same_key key_order (λ (d : Definition). B d.body)
        (record { selector = selector; classes = classes; body = body }) p.definitions e.1 k.bodies;
  }
  effect_known p (Undefine selector classes) k e = record { links = k.links; bodies = All-filter _ (λ (d : Definition). B d.body) p.definitions k.bodies }

  -- ---- batches and histories

  abbrev pub KnownStep : Result Program Refused → Type 0
  KnownStep (Ok p) = KnownProgram p
  KnownStep (Err refused) = IfSome (class_of refused.why) C

  pub step_known : (place : ℕ) (p : Program) (edits : List Edit) → KnownProgram p → All KnownEdit edits → KnownStep (step_from place p edits)
  step_known place p [] k e = k
  step_known place p (edit ∷ edits) k e =
      let known = All-head KnownEdit edit edits e in
      elim (refusal p edit) as (λ cause. KnownWhy cause → KnownStep (and_then (ok_unless cause (effect p edit)) place (λ q. step_from (place + 1) q edits))) [
        | None ↦ λ _. step_known (place + 1) (effect p edit) edits (effect_known p edit k known) (All-tail KnownEdit edit edits e)
        | (Some why) ↦ λ told. told
      ] (refusal_known p edit k known)

  stepped_known : (p : Program) (edits : List Edit) → KnownProgram p → All KnownEdit edits → KnownProgram (stepped p edits)
  stepped_known p edits k e =
      elim (step_batch p edits) as (λ (r : Result Program Refused). KnownStep r → KnownProgram (result_unwrap_or r p)) [
        | (Ok q) ↦ λ known. known
        | (Err refused) ↦ λ _. k
      ] (step_known 1 p edits k e)

  after_known : (p : Program) (history : List (List Edit)) → KnownProgram p → All (All KnownEdit) history → KnownProgram (after_from p history)
  after_known p [] k e = k
  after_known p (batch ∷ history) k e =
      after_known (stepped p batch) history (stepped_known p batch k (All-head (All KnownEdit) batch history e)) (All-tail (All KnownEdit) batch history e)

  pub history_known : (history : List (List Edit)) → All (All KnownEdit) history → KnownProgram (after history)
  history_known history e = after_known empty_program history (record {
    links = All-nil (λ (link : Link). C link.class);
    bodies = All-nil (λ (d : Definition). B d.body);
  }) e
