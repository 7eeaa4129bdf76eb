-- What an edit changes: the queries whose cells differ between two programs.
--
-- What a caller must believe stands first: Differences says what the changes are, Understood what cells and rows a program
-- has, Limits how many are allowed and what sizes are of a program, Counted how steps are counted. The laws after them say by
-- which boxes of class lists the changes, the cells and the rows are found. How they are found stands behind: GoneThrough is
-- what is told of every query in order, Walk which classes are gone on with, Marks and Touched where, Begun and Bounds what is
-- counted.
pub mod Differences
pub mod Understood
pub mod Limits
pub mod Counted
pub mod Boxes
pub mod BoxLaws
pub mod Counts
pub mod CandidateBoxes
pub mod FinerMarks
pub mod GoneThrough
pub mod Walk
pub mod Marks
pub mod Touched
pub mod Begun
pub mod Bounds
pub mod DifferenceExamples
pub mod BoxExamples
pub mod LimitExamples
