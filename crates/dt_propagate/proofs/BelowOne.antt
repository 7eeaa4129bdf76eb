-- What is understood, and a row, is below one definition.
use Rattle.std.proofs.Common.{◌≡◌, ℕ, ◌<◌, true, IsTrue, length, sym, ◌∙◌, arith, All}
use Rattle.std.proofs.lemmas.Bool.{and_parts, and_from}
use Rattle.dt_graph.specs.Graph.{is_live}
use Rattle.dt_graph.proofs.ListMembers.{In, In-from_any, any_from_In}
use Rattle.dt_definitions.specs.Lawful.{Lawful}
use Rattle.dt_definitions.specs.Program.{Definition, Program, definitions_of}
use Rattle.dt_scratch.specs.Query.{Query}
use Rattle.dt_propagate.specs.Begun.{begins, is_begun_query, takes_more}
use Rattle.dt_propagate.specs.Touched.{takes}
use Rattle.dt_propagate.specs.Understood.{Understands, IsRow}
use Rattle.dt_propagate.proofs.CellsAndRows.{definition_at, cell_begins, begins_cell, row_begins, begins_row, takes_from, takes_to, more_from, more_to, some_same}

-- how many classes a query has beside its definition: as many, or fewer
abbrev pub AsMany : ℕ → ℕ → Type 0
AsMany n m = n ≡ m

abbrev pub Fewer : ℕ → ℕ → Type 0
Fewer n m = n < m

-- a definition of the query's selector that its classes begin below
pub record BelowOne (program : Program) (Fits : ℕ → ℕ → Type 0) (query : Query) : Type 0 where
  pub definition : Definition
  pub own : In (definitions_of program query.selector) definition
  pub begins : begins program.graph.links query.classes definition.classes ≡ true
  pub fits : Fits (length query.classes) (length definition.classes)

module _ (program : Program) (lawful : Lawful program) where
  pub live_at : (query : Query) (d : Definition) → In (definitions_of program query.selector) d →
      All (λ class. IsTrue (is_live program.graph class)) d.classes
  live_at query d i = (definition_at program lawful query.selector d i).1

  pub understood_below : (query : Query) → Understands program query → BelowOne program AsMany query
  understood_below query understood =
      let parts = and_parts (takes program query.selector (length query.classes)) (is_begun_query program query)
      (cell_begins program lawful query understood) in
      let d = In-from_any (λ d. begins program.graph.links query.classes d.classes) (definitions_of program query.selector) parts.1 in
      let at = definition_at program lawful query.selector d.0 d.1 in
      record {
        definition = d.0;
        own = d.1;
        begins = d.2;
        fits = some_same (length query.classes) (length d.0.classes)
            (sym (takes_to program query.selector (length query.classes) parts.0) ∙ at.0);
      }

  pub below_understood : (query : Query) → BelowOne program AsMany query → Understands program query
  below_understood query one =
      let at = definition_at program lawful query.selector one.definition one.own in
      begins_cell program lawful query (and_from (takes program query.selector (length query.classes)) (is_begun_query program query)
      (takes_from program query.selector (length query.classes) (length one.definition.classes) at.0 (sym one.fits))
      (any_from_In (λ d. begins program.graph.links query.classes d.classes) (definitions_of program query.selector) one.definition one.own one.begins))

  pub row_below : (query : Query) → IsRow program query → BelowOne program Fewer query
  row_below query row =
      let parts = and_parts (takes_more program query.selector (length query.classes)) (is_begun_query program query)
      (row_begins program lawful query row) in
      let d = In-from_any (λ d. begins program.graph.links query.classes d.classes) (definitions_of program query.selector) parts.1 in
      let at = definition_at program lawful query.selector d.0 d.1 in
      let more = more_to program query.selector (length query.classes) parts.0 in
      let same = some_same more.0 (length d.0.classes) (sym more.1 ∙ at.0) in
      record {
        definition = d.0;
        own = d.1;
        begins = d.2;
        fits = omega (arith, same, more.2);
      }

  pub below_row : (query : Query) → BelowOne program Fewer query → IsRow program query
  below_row query one =
      let at = definition_at program lawful query.selector one.definition one.own in
      begins_row program lawful query (and_from (takes_more program query.selector (length query.classes)) (is_begun_query program query)
      (more_from program query.selector (length query.classes) (length one.definition.classes) at.0 one.fits)
      (any_from_In (λ d. begins program.graph.links query.classes d.classes) (definitions_of program query.selector) one.definition one.own one.begins))
