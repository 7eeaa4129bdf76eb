-- Cells, replies and answers.
use Rattle.std.proofs.Common.{◌≡◌, ◌≢◌, ◌==◌, ℕ, ◌+◌, suc, true, IsTrue, List, [], ◌∷◌, length, inl, refl, sym, ap, subst, ◌∙◌, All}
use Rattle.std.specs.Prelude.{Option, None, Some}
use Rattle.std.proofs.lemmas.Bool.{and_parts, eq-eqb}
use Rattle.std.proofs.lemmas.List.Elements.{All-cons, All-head, All-tail}
use Rattle.dt_graph.specs.Graph.{Graph, is_live}
use Rattle.dt_graph.specs.Lawful.{LawfulGraph}
use Rattle.dt_graph.proofs.BelowSets.{both_live}
use Rattle.dt_graph.proofs.ListMembers.{by_cases, In, All-In}
use Rattle.dt_definitions.specs.Lawful.{Lawful, LawfulDefinition}
use Rattle.dt_definitions.specs.Program.{Definition, Program, arity_of}
use Rattle.dt_scratch.specs.declared.reply.Answer.TheVariants.{NotUnderstood}
use Rattle.dt_scratch.specs.declared.reply.Reply.{Reply}
use Rattle.dt_scratch.specs.declared.reply.Reply.TheVariants.{Answered}
use Rattle.dt_scratch.specs.Query.{Query, arity_of_query}
use Rattle.dt_scratch.specs.Resolve.{are_below, applicable, answer, first_dead, reply_by_classes, reply_by_arity, reply, cell_of, cell}
use Rattle.dt_scratch.specs.CellLaws.{OnlyAnswersAreInCells, IsUnderstood, UnderstoodCells, CellsAreAnswers}
use Rattle.dt_scratch.proofs.Lowest.{not_understood_where_none}
use Rattle.dt_scratch.proofs.Parts.{is_applicable}

only_answers : (r : Reply) → cell_of r ≢ NotUnderstood → r ≡ Answered (cell_of r)
only_answers (Answered a) h = refl
only_answers r h = absurd (h refl)

pub only_answers_are_in_cells : OnlyAnswersAreInCells
only_answers_are_in_cells program query h = only_answers (reply program query) h

-- no answer, no cell
no_cell : (live : Option ℕ) (asked : ℕ) (dead : Option ℕ) →
    cell_of (reply_by_arity live asked (reply_by_classes dead NotUnderstood)) ≡ NotUnderstood
no_cell None asked dead = refl
no_cell (Some arity) asked None = by_cases (arity == asked) (λ t. rw t refl) (λ f. rw f refl)
no_cell (Some arity) asked (Some position) = by_cases (arity == asked) (λ t. rw t refl) (λ f. rw f refl)

abbrev IsLive : Graph → ℕ → Type 0
IsLive graph class = IsTrue (is_live graph class)

-- no class is dead where all are live
none_dead : (graph : Graph) (position : ℕ) (classes : List ℕ) → All (IsLive graph) classes →
    first_dead graph position classes ≡ None
none_dead graph position [] all = refl
none_dead graph position (class ∷ classes) all =
    rw (All-head (IsLive graph) class classes all) (none_dead graph (position + 1) classes (All-tail (IsLive graph) class classes all))

-- what is below live classes is live
are_below-live : (graph : Graph) → LawfulGraph graph → (lows highs : List ℕ) → are_below graph.links lows highs ≡ true →
    All (IsLive graph) highs → (length lows ≡ length highs) × All (IsLive graph) lows
are_below-live graph lawful [] [] e live = (refl, live)
are_below-live graph lawful (low ∷ lows) (high ∷ highs) e live =
    let h = and_parts _ _ e in
    let rest = are_below-live graph lawful lows highs h.1 (All-tail (IsLive graph) high highs live) in (
      ap suc rest.0,
      All-cons (IsLive graph) low lows (both_live graph lawful low high h.0 ∙ All-head (IsLive graph) high highs live) rest.1,
    )
are_below-live graph lawful lows highs e live = absurd (cc)

module _ (program : Program) (lawful : Lawful program) (query : Query) where
  -- where a definition is applicable, the selector and the classes are live
  live_where_applicable : (d : Definition) → In (applicable program query) d →
      (arity_of program query.selector ≡ Some (arity_of_query query)) × All (IsLive program.graph) query.classes
  live_where_applicable d i =
      let there = is_applicable program query d i in
      let own = All-In (LawfulDefinition program) program.definitions d lawful.definitions_lawful there.defined in
      let live = are_below-live program.graph lawful.graph query.classes d.classes there.below own.classes_live in
      (ap (arity_of program) (sym there.of_selector) ∙ own.arity_fits ∙ ap Some (sym live.0), live.1)

  cell_by : (found : List Definition) → applicable program query ≡ found → cell program query ≡ answer program query
  cell_by [] e =
      let none = (not_understood_where_none program lawful query).1 e in
      rw none (no_cell (arity_of program query.selector) (arity_of_query query) (first_dead program.graph 1 query.classes))
  cell_by (d ∷ found) e =
      let live = live_where_applicable d (subst (λ xs. In xs d) (sym e) (inl refl)) in
      rw (live.0, none_dead program.graph 1 query.classes live.1, eq-eqb (arity_of_query query) (arity_of_query query) refl) refl

  understood_by : (found : List Definition) → applicable program query ≡ found → applicable program query ≢ [] → IsUnderstood program query
  understood_by [] e some = absurd (some e)
  understood_by (d ∷ found) e some =
      let live = live_where_applicable d (subst (λ xs. In xs d) (sym e) (inl refl)) in
      record { arity_fits = live.0; classes_live = live.1; some_applicable = some }

pub cells_are_answers : CellsAreAnswers
cells_are_answers program lawful query = cell_by program lawful query (applicable program query) refl

pub understood_cells : UnderstoodCells
understood_cells program lawful query = (
  (λ some. understood_by program lawful query (applicable program query) refl
      (λ e. some (cells_are_answers program lawful query ∙ (not_understood_where_none program lawful query).1 e))),
  (λ understood e. understood.some_applicable
      ((not_understood_where_none program lawful query).0 (sym (cells_are_answers program lawful query) ∙ e))),
)
