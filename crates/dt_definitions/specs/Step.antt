-- What an edit and a batch of edits do to a program, or the first cause for which they are refused; and what their
-- answers say. Each idea stands in its own file.
pub use Rattle.dt_definitions.specs.Causes.{why_of, why_of_selector, is_named, is_defined, has_definition, arity_differs, place_causes, refusal}
pub use Rattle.dt_definitions.specs.Effect.{with_graph, with_selectors, with_definitions, effect}
pub use Rattle.dt_definitions.specs.History.{step_edit, Refused, and_then, step_from, step_batch, stepped, after_from, after}
pub use Rattle.dt_definitions.specs.Answers.{Applies, AppliesBatch, fault_at}
