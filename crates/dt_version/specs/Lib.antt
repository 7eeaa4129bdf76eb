-- The machine of `dt_gate`, run over one table of words. Read in this order:
-- `Ranges` and `Limits`, the numbers that a store is made with; `Views`, what each seat at the table knows;
-- `Rule`, what holds of the table between any two steps; `Told`, what a step tells who takes it; `Calls` and `AuthorCalls`,
-- what the calls make of what is known; `Laws`, why the rule and the steps are those of the machine; `Examples` and
-- `CallExamples`, both worked out.
pub mod Ranges
pub mod Limits
pub mod Views
pub mod Rule
pub mod Told
pub mod Calls
pub mod AuthorCalls
pub mod Laws
pub mod Examples
pub mod CallExamples
