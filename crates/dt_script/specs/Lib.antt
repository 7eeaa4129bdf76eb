-- To be read first, in this order: the names of a script, the words of a line and what a line is, the lines of a text and
-- those that mean nothing, where a line may stand, what a script is of its lines, which script bytes are or which fault
-- comes first in them, what is read of a source, what performing asks of a script, that its numbers have names, how a
-- line is written, and which script a number gives.
pub mod NameBook
pub mod Word
pub mod Line
pub mod Lines
pub mod Place
pub mod Script
pub mod ScriptOf
pub mod ReadScript
pub mod Playable
pub mod Named
pub mod Writing
-- The text that is generated from a number: its size, what is drawn, the lines, and their text.
pub mod GeneratedSize
pub mod Draw
pub mod GeneratedLines
pub mod GeneratedText
-- Laws that follow from these.
pub mod LawfulBook
pub mod Growth
pub mod Laws
pub mod OneAnswer
pub mod GeneratedLaws
-- Worked examples.
pub mod LineExamples
pub mod LanguageExamples
pub mod PlaceExamples
pub mod ScriptExamples
pub mod ScriptOfExamples
pub mod ReadScriptExamples
pub mod PlayableExamples
pub mod LawfulBookExamples
pub mod GeneratedExamples
-- How it is read: no clause of a public call speaks of these.
pub mod Cut
pub mod Words
pub mod Keyword
pub mod Numbering
pub mod Written
pub mod WrittenLine
pub mod NumberedLine
pub mod LineRead
pub mod CallerSet
pub mod GeneratedLists
pub mod ScriptBuilder
pub mod Reading
