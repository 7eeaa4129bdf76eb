-- An edit changes no reply but those that it concerns.
use Rattle.std.specs.Prelude.{◌≡◌, ℕ, false, List, Ok}
use Rattle.dt_definitions.specs.Program.{Program}
use Rattle.dt_definitions.specs.declared.definition_key.DefinitionKey.{DefinitionKey}
use Rattle.dt_definitions.specs.Lawful.{Lawful}
use Rattle.dt_definitions.specs.Step.{effect, step_batch}
use Rattle.dt_definitions.specs.Differing.{DifferOnlyAt}
use Rattle.dt_definitions.specs.declared.edit.Edit.{Edit}
use Rattle.dt_scratch.specs.Query.{Query}
use Rattle.dt_scratch.specs.Resolve.{reply, cell}
use Rattle.dt_scratch.specs.Locality.{concerns, batch_concerns, is_candidate}

-- an edit changes no reply to a query that it doesn't concern, by the links before it
abbrev pub EditsChangeWhatTheyConcern : Type 0
EditsChangeWhatTheyConcern = (program : Program) (edit : Edit) (query : Query) →
    concerns program.graph.links edit query ≡ false → reply (effect program edit) query ≡ reply program query

-- by the links after it, it concerns the same queries
abbrev pub EditsConcernTheSameAfter : Type 0
EditsConcernTheSameAfter = (program : Program) (edit : Edit) (query : Query) →
    concerns program.graph.links edit query ≡ concerns (effect program edit).graph.links edit query

-- a batch changes no reply to a query that none of its edits concerns, by the links before all of them
abbrev pub BatchesChangeWhatTheyConcern : Type 0
BatchesChangeWhatTheyConcern = (old new : Program) (edits : List Edit) → step_batch old edits ≡ Ok new →
    (query : Query) → batch_concerns old.graph.links edits query ≡ false → reply new query ≡ reply old query

-- a query that is a candidate in neither of two lawful programs has the same cell in both
abbrev pub OthersKeepTheirCell : Type 0
OthersKeepTheirCell = (edited : List ℕ) (redefined : List DefinitionKey) (old new : Program) →
    Lawful old → Lawful new → DifferOnlyAt edited redefined old new → (query : Query) →
    is_candidate edited redefined old query ≡ false → is_candidate edited redefined new query ≡ false →
    cell old query ≡ cell new query
