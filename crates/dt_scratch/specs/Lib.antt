-- Queries, and their replies by look-up from scratch.
--
-- What a caller must believe stands first and is read in this order: what a query is, and what its reply is; the examples
-- show both. Of the laws, Laws and CellLaws say by which definition a query is answered, and Locality with LocalityLaws
-- which replies an edit can change. Among and QueryParts are how the reply is found and how a query is kept.
pub mod Query
pub mod Resolve
pub mod Examples
pub mod Laws
pub mod CellLaws
pub mod LawExamples
pub mod Locality
pub mod LocalityLaws
pub mod LocalityExamples
pub mod Among
pub mod AmongLaws
pub mod AmongExamples
pub mod QueryParts
