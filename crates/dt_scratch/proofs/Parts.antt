-- Which definitions are applicable to a query, and which are enough to answer it among.
use Rattle.std.proofs.Common.{◌≡◌, ◌==◌, ◌&&◌, ℕ, Bool, true, List, ap, ◌∙◌, sym, filter, eq-eqb, eqb-true}
use Rattle.std.specs.Prelude.{None, Some}
use Rattle.std.proofs.lemmas.Bool.{and_parts}
use Rattle.dt_graph.specs.Graph.{Graph, Link}
use Rattle.dt_graph.proofs.ListMembers.{In, In-from_filter, filter-filter, filter-map, filter-weaker}
use Rattle.dt_definitions.specs.SelectorLists.{definition_of, with_selector}
use Rattle.dt_definitions.specs.Program.{Definition, Program, arity_of, definitions_of}
use Rattle.dt_definitions.specs.declared.defined.Defined.{Defined}
use Rattle.dt_scratch.specs.declared.reply.Answer.{Answer}
use Rattle.dt_scratch.specs.declared.reply.Reply.TheVariants.{Answered}
use Rattle.dt_scratch.specs.Query.{Query, arity_of_query}
use Rattle.dt_scratch.specs.Resolve.{are_below, applicable, minimal, answer_by, answer, first_dead, reply}
use Rattle.dt_scratch.specs.Among.{answer_among, HasAllApplicable}
use Rattle.dt_scratch.specs.AmongLaws.{AllAreEnough, PartsAreEnough}

-- whether the query is of the definition's selector and at or below its classes
abbrev pub applies : List Link → Query → Definition → Bool
applies links query d = (d.selector == query.selector) && are_below links query.classes d.classes

-- what is known of an applicable definition
pub record IsApplicable (p : Program) (query : Query) (d : Definition) : Type 0 where
  pub defined : In p.definitions d
  pub of_selector : d.selector ≡ query.selector
  pub below : are_below p.graph.links query.classes d.classes ≡ true

pub is_applicable : (p : Program) (query : Query) (d : Definition) → In (applicable p query) d → IsApplicable p query d
is_applicable p query d i =
    let found = In-from_filter (applies p.graph.links query) p.definitions d i in
    let parts = and_parts (d.selector == query.selector) _ found.1 in
    record { defined = found.0; of_selector = eqb-true d.selector query.selector parts.0; below = parts.1 }

-- ---- enough

pub all_are_enough : AllAreEnough
all_are_enough program query defined all =
    let below : Definition → Bool = λ d. are_below program.graph.links query.classes d.classes in
    ap (filter below) all ∙ filter-filter (λ d. d.selector == query.selector) below program.definitions

pub parts_are_enough : PartsAreEnough
parts_are_enough program query defined keeps enough passes =
    let below : Definition → Bool = λ d. are_below program.graph.links query.classes d.classes in
    let f = definition_of query.selector in
    filter-map f below (filter keeps defined)
    ∙ ap (with_selector query.selector) (filter-weaker (λ d. are_below program.graph.links query.classes d.classes) keeps defined passes)
    ∙ sym (filter-map f below defined)
    ∙ enough

-- the answer among definitions that have all that are applicable
pub answer_of_all : (program : Program) (query : Query) (graph : Graph) (classes : List ℕ) (defined : List Defined) →
    program.graph ≡ graph → query.classes ≡ classes → HasAllApplicable program query defined →
    answer_among graph.links classes (with_selector query.selector defined) ≡ answer program query
answer_of_all program query graph classes defined of_graph of_classes all =
    rw (← of_graph, ← of_classes) (ap (λ found. answer_by (minimal program.graph.links found)) all)

-- ---- the reply where the selector and all classes are live

-- what is known of the parts from which the answer was made
pub record IsAnswered (p : Program) (q : Query) (graph : Graph) (selector arity : ℕ) (classes : List ℕ)
    (defined : List Defined) (a : Answer) : Type 0 where
  pub of_graph : p.graph ≡ graph
  pub of_selector : selector ≡ q.selector
  pub of_classes : q.classes ≡ classes
  pub live : Some arity ≡ arity_of p selector
  pub fits : arity ≡ arity_of_query q
  pub all_live : first_dead p.graph 1 q.classes ≡ None
  pub all_found : with_selector selector defined ≡ definitions_of p selector
  pub answers : a ≡ answer_among graph.links classes (with_selector selector defined)

pub answered_reply : (p : Program) (q : Query) (graph : Graph) (selector arity : ℕ) (classes : List ℕ)
    (defined : List Defined) (a : Answer) →
    IsAnswered p q graph selector arity classes defined a → Answered a ≡ reply p q
answered_reply p q graph selector arity classes defined a h =
    let all = all_are_enough p q defined (rw h.of_selector at h.all_found) in
    let is_answer : a ≡ answer p q = rw h.of_selector at h.answers ∙ answer_of_all p q graph classes defined h.of_graph h.of_classes all in
    rw (ap (arity_of p) (sym h.of_selector) ∙ sym h.live, h.all_live, eq-eqb arity (arity_of_query q) h.fits) (ap Answered is_answer)
