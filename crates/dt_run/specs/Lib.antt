-- To be read first, in this order: a log, its shape for a script, its versions, its edits, the lines of each caller, its
-- calls, and so what an outcome is; the words and the text of a log, what a sink took of it, and what it tells of the log;
-- its summary; then how a run ends.
pub mod Log
pub mod LogShape
pub mod Versions
pub mod Edits
pub mod CallerLines
pub mod Calls
pub mod Outcome
pub mod Text
pub mod Printed
pub mod Shape
pub mod TextLaws
pub mod Summary
pub mod Status
pub mod FaultText
pub mod Run
pub mod Ending
-- Worked examples.
pub mod OutcomeExamples
pub mod RunExamples
pub mod EndingExamples
pub mod SummedEndingExamples
pub mod FaultExamples
pub mod TextExamples
pub mod SummaryExamples
-- Of edits, in a crate above theirs.
pub mod ConcernExamples
-- How it is made: no clause of a public call speaks of these.
pub mod Performing
pub mod LogWord
pub mod Putting
pub mod Tallying
