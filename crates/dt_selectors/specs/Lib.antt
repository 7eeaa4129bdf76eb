-- What names and selectors mean. Read in this order: names, selectors, what is lawful, the laws; then the worked examples.
-- How the selectors are kept comes last: no public clause names it.
pub mod Names
pub mod Selectors
pub mod Lawful
pub mod Laws
pub mod NameLists
-- worked examples
pub mod Examples
pub mod LawfulExamples
-- how it is kept
pub mod Rows
