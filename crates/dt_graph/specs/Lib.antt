-- What a class graph means. Read in this order: how a change is refused, lists in order, the graph, its parents, below,
-- what is lawful, what is below a class, the changes, and what undoing leaves; then the worked examples. These are all
-- that the public clauses speak of. How the graph is kept comes last: no public clause names it.
pub mod Refusal
pub mod InOrder
pub mod SameLists
pub mod FirstFrom
pub mod Graph
pub mod Parents
pub mod Below
pub mod Lawful
pub mod LinkChanges
pub mod Laws
pub mod Descendants
pub mod GraphChange
-- worked examples, and graphs that aren't lawful
pub mod Examples
pub mod RefusalExamples
pub mod Unlawful
pub mod LawExamples
-- how it is kept: what the kept classes and parents stand for, sets by their bits, which is below which, and how that
-- follows the links
pub mod GraphRows
pub mod ClassSet
pub mod Ancestry
pub mod Renewal
