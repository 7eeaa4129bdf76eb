-- What follows of cells.
use Rattle.std.specs.Prelude.{◌≡◌, ◌≢◌, ◌↔◌, IsTrue, [], Some, All}
use Rattle.dt_graph.specs.Graph.{is_live}
use Rattle.dt_definitions.specs.Program.{Program, arity_of}
use Rattle.dt_definitions.specs.Lawful.{Lawful}
use Rattle.dt_scratch.specs.declared.reply.Answer.TheVariants.{NotUnderstood}
use Rattle.dt_scratch.specs.declared.reply.Reply.TheVariants.{Answered}
use Rattle.dt_scratch.specs.Query.{Query, arity_of_query}
use Rattle.dt_scratch.specs.Resolve.{applicable, answer, reply, cell}

-- a cell other than not understood is that of a query that is answered
abbrev pub OnlyAnswersAreInCells : Type 0
OnlyAnswersAreInCells = (program : Program) (query : Query) →
    cell program query ≢ NotUnderstood → reply program query ≡ Answered (cell program query)

-- the selector is live and takes as many arguments, the classes are live, and a definition is applicable
pub record IsUnderstood (program : Program) (query : Query) : Type 0 where
  pub arity_fits : arity_of program query.selector ≡ Some (arity_of_query query)
  pub classes_live : All (λ class. IsTrue (is_live program.graph class)) query.classes
  pub some_applicable : applicable program query ≢ []

-- in a lawful program a cell is other than not understood exactly where the query is understood
abbrev pub UnderstoodCells : Type 0
UnderstoodCells = (program : Program) → Lawful program → (query : Query) →
    (cell program query ≢ NotUnderstood) ↔ IsUnderstood program query

-- and the cell of each query is its answer, which doesn't ask what is live
abbrev pub CellsAreAnswers : Type 0
CellsAreAnswers = (program : Program) → Lawful program → (query : Query) → cell program query ≡ answer program query
